-- Which first word of a line makes a task.
use Rattle.std.proofs.Common.{◌≡◌, ℕ, Bool, true, false, cond, List, Option, Some, None, refl, sym, ap, ◌∙◌}
use Rattle.std.specs.Prelude.{codes}
use Rattle.std.specs.Option.{option_map}
use Rattle.std.specs.Str.{bytes_eq}
use Rattle.std.proofs.lemmas.Bool.{false≢true}
use Rattle.std.proofs.lemmas.Slice.Eq.{bytes_eq-Decides}
use Rattle.script_reader.specs.declared.schedule.EventVerb.{EventVerb}
use Rattle.script_reader.specs.declared.schedule.EventVerb.TheVariants.{Step, Kill, Hangup, Spawn}
use Rattle.script_reader.specs.Schedule.{event_verb_of}
use Rattle.hipc_search.specs.Known.{is_spawn}

module _ (word : List ℕ) where
  -- the word is this one, as the table asks it
  abbrev is : List ℕ → Bool
  is known = bytes_eq known word

  same : (known : List ℕ) → is known ≡ true → word ≡ known
  same known e = sym ((bytes_eq-Decides known word).0 e)

  other : is (codes "spawn") ≡ false → bytes_eq word (codes "spawn") ≡ false
  other e = by_test (bytes_eq word (codes "spawn")) refl where
    by_test : (b : Bool) → bytes_eq word (codes "spawn") ≡ b → b ≡ false
    by_test true f =
        absurd (false≢true (sym e
        ∙ (bytes_eq-Decides (codes "spawn") word).1 (sym ((bytes_eq-Decides word (codes "spawn")).0 f))))
    by_test false f = refl

  -- the verb, by what the table is asked in turn
  abbrev verb_by : (step kill hangup spawn : Bool) → Option EventVerb
  verb_by step kill hangup spawn =
      option_map (λ (entry : List ℕ × EventVerb). entry.1)
      (cond step (Some (codes "step", Step))
      (cond kill (Some (codes "kill", Kill))
      (cond hangup (Some (codes "hangup", Hangup)) (cond spawn (Some (codes "spawn", Spawn)) None))))

  abbrev Told : Bool → Type 0
  Told answer = bytes_eq word (codes "spawn") ≡ answer

  told : (step kill hangup spawn : Bool) → is (codes "step") ≡ step → is (codes "kill") ≡ kill
      → is (codes "hangup") ≡ hangup → is (codes "spawn") ≡ spawn → Told (is_spawn (verb_by step kill hangup spawn))
  told true kill hangup spawn e f g h = ap (λ (w : List ℕ). bytes_eq w (codes "spawn")) (same (codes "step") e)
  told false true hangup spawn e f g h = ap (λ (w : List ℕ). bytes_eq w (codes "spawn")) (same (codes "kill") f)
  told false false true spawn e f g h = ap (λ (w : List ℕ). bytes_eq w (codes "spawn")) (same (codes "hangup") g)
  told false false false true e f g h = ap (λ (w : List ℕ). bytes_eq w (codes "spawn")) (same (codes "spawn") h)
  told false false false false e f g h = other h

  -- it is `spawn`, and no other
  pub spawn_is : bytes_eq word (codes "spawn") ≡ is_spawn (event_verb_of word)
  unfolding event_verb_of
  spawn_is =
      told (is (codes "step")) (is (codes "kill")) (is (codes "hangup")) (is (codes "spawn")) refl refl refl refl
