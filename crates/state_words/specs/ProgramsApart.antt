-- What two programs of the same words have in common: all but what is constant and how many outcomes they took.
use Rattle.std.specs.Prelude.{◌≡◌}
use Rattle.raw_program.specs.Raw.{RawState}
use Rattle.naming_service.specs.Naming.{NamingState}
use Rattle.block_server.specs.Blocks.{BlockState}

-- both are at the same operation, with the same registers
pub record IsSameRaw (a b : RawState) : Type 0 where
  pub place : a.place ≡ b.place
  pub registers : a.registers ≡ b.registers

-- both know the same services and ends, hold the same calls, and have the same to do
pub record IsSameNaming (a b : NamingState) : Type 0 where
  pub registry : a.registry ≡ b.registry
  pub pending : a.pending ≡ b.pending
  pub ends : a.ends ≡ b.ends
  pub work : a.work ≡ b.work

-- both keep the same blocks for the same clients, and have the same to do
pub record IsSameBlock (a b : BlockState) : Type 0 where
  pub blocks : a.blocks ≡ b.blocks
  pub slots : a.slots ≡ b.slots
  pub work : a.work ≡ b.work
