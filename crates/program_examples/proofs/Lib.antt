mod BlockLaws
mod NamingLaws
mod FibrilLaws
mod RawLaws
mod FibrilRefusals
pub mod ScriptArguments
pub mod ProgramArguments
