-- The kinds that a task line gives.
use Rattle.std.proofs.Common.{◌≢◌, ℕ, Bool, true, false, cond, List, Option, Some, None}
use Rattle.std.specs.Prelude.{IfSome, option_map, codes}
use Rattle.std.specs.Str.{bytes_eq}
use Rattle.ipc_ids.specs.Tables.{named_in}
use Rattle.script_lines.specs.declared.plan.Kind.{Kind}
use Rattle.script_lines.specs.declared.plan.Kind.TheVariants.{Naming, Raw, Async, Block}
use Rattle.script_lines.specs.Line.{kinds, counted_kinds, service_kinds}
use Rattle.script_lines.specs.Sound.{IsRawOrAsync}

pub no_line_is_naming : (word : List ℕ) → IfSome (named_in kinds word) (λ kind. kind ≢ Naming)
no_line_is_naming word = go (bytes_eq (codes "raw") word) (bytes_eq (codes "async") word) where
  row : Option (List ℕ × Kind) → Option Kind
  row found = option_map (λ (r : List ℕ × Kind). r.1) found

  go : (raw async : Bool) → IfSome (row (cond raw (Some (codes "raw", Raw)) (cond async (Some (codes "async", Async)) None))) (λ kind. kind ≢ Naming)
  go true async = λ same. absurd cc
  go false true = λ same. absurd cc
  go false false = tt

-- a line without a number, and that of a template, is of a raw or an async one
pub each_is_raw_or_async : (word : List ℕ) → IfSome (named_in kinds word) IsRawOrAsync
each_is_raw_or_async word = go (bytes_eq (codes "raw") word) (bytes_eq (codes "async") word) where
  go : (raw async : Bool) → IfSome (option_map (λ (r : List ℕ × Kind). r.1) (cond raw (Some (codes "raw", Raw)) (cond async (Some (codes "async", Async)) None))) IsRawOrAsync
  go true async = tt
  go false true = tt
  go false false = tt

pub no_counted_line_is_naming : (word : List ℕ) → IfSome (named_in counted_kinds word) (λ kind. kind ≢ Naming)
no_counted_line_is_naming word = go (bytes_eq (codes "raw") word) (bytes_eq (codes "async") word) (bytes_eq (codes "block") word) where
  row : Option (List ℕ × Kind) → Option Kind
  row found = option_map (λ (r : List ℕ × Kind). r.1) found

  go : (raw async block : Bool) → IfSome (row (cond raw (Some (codes "raw", Raw)) (cond async (Some (codes "async", Async)) (cond block (Some (codes "block", Block)) None)))) (λ kind. kind ≢ Naming)
  go true async block = λ same. absurd cc
  go false true block = λ same. absurd cc
  go false false true = λ same. absurd cc
  go false false false = tt

pub no_service_line_is_naming : (word : List ℕ) → IfSome (named_in service_kinds word) (λ kind. kind ≢ Naming)
no_service_line_is_naming word = go (bytes_eq (codes "block") word) where
  row : Option (List ℕ × Kind) → Option Kind
  row found = option_map (λ (r : List ℕ × Kind). r.1) found

  go : (block : Bool) → IfSome (row (cond block (Some (codes "block", Block)) None)) (λ kind. kind ≢ Naming)
  go true = λ same. absurd cc
  go false = tt
