-- How keys and links are kept in four bytes.
use Rattle.std.specs.Prelude.{ℕ, Option, None, Some, cond, nat_eq}
use Rattle.call_slab.specs.declared.links.Links.{Links}

-- the key that is kept as this number; the greatest one of four bytes stands for none
abbrev pub key_held : ℕ → Option ℕ
key_held n = cond (nat_eq n 4294967295) None (Some n)

-- the links that are kept as these numbers
abbrev pub kept_links : ℕ → ℕ → ℕ → ℕ → Links
kept_links before after older newer =
    record {
      before = key_held before;
      after = key_held after;
      older = key_held older;
      newer = key_held newer;
    }

-- no neighbours
abbrev pub no_links : Links
no_links = record { before = None; after = None; older = None; newer = None }
