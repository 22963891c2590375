pub mod ShareMoments
