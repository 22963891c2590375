pub mod DataMoments
