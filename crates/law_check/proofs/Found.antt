-- What is found of entries that were read one by one.
use Rattle.std.proofs.Common.{ℕ, ◌≡◌, ◌<◌, ◌≤◌, ◌+◌, ◌++◌, List, [], ◌∷◌, length, refl, sym, ap, subst, ◌∙◌, arith, inl, inr, append_assoc}
use Rattle.std.proofs.lemmas.List.{append-nil}
use Rattle.ipc_ids.specs.declared.entry.Entry.{Entry}
use Rattle.ipc_ids.specs.Laws.{LivesAreLawful, AnsweredAtMostOnce, KillEndsHeldCalls}
use Rattle.ipc_ids.specs.AreaLaw.{AreasAreLawful}
use Rattle.ipc_ids.proofs.Common.{suc_over}
use Rattle.trace_print.specs.Text.{text_of_entry, text_of}
use Rattle.trace_print.proofs.Texts.{text_append}
use Rattle.law_check.specs.Passing.{in_order}
use Rattle.law_check.specs.Judging.{events_of}
use Rattle.law_check.specs.Verdict.{IsVerdict}
use Rattle.law_check.specs.declared.verdict.Verdict.TheVariants as verdict
use Rattle.trace_reader.specs.Line.{IsBuilt}
use Rattle.trace_reader.specs.Trace.{AreBuilt, IsTrace, IsNoLine, IsFirstBad}
use Rattle.trace_reader.proofs.Only.{one_list, no_bad}
use Rattle.trace_reader.proofs.ReadAgain.{built_push}
use Rattle.law_check.specs.declared.reading.Reading.{Reading}
use Rattle.law_check.specs.Finding.{most_trace, IsLawfulTrace}
use Rattle.law_check.specs.Reading.{HasRead, ReadsTo}

in_order_is : (p es : List Entry) → in_order p es ≡ in_order p [] ++ es
in_order_is [] es = refl
in_order_is (e ∷ p) es =
    in_order_is p (e ∷ es)
    ∙ sym (append_assoc (in_order p []) (e ∷ []) es)
    ∙ ap (λ (xs : List Entry). xs ++ es) (sym (in_order_is p (e ∷ [])))

in_order_length : (p es : List Entry) → length (in_order p es) ≡ length p + length es
in_order_length [] es = first (length es) where
  first : (n : ℕ) → n ≡ 0 + n
  first n = omega arith
in_order_length (e ∷ p) es = in_order_length p (e ∷ es) ∙ suc_over (length p) (length es)

-- one more entry
pub reads_on :
    (bytes rest more : List ℕ) (e : Entry) (old new : Reading) (to : ReadsTo bytes rest old) →
    rest ≡ text_of_entry e ++ more → IsBuilt e → length more < length rest → HasRead (e ∷ to.past) new →
    new.entries ≡ old.entries + 1 → events_of new.laws ≤ new.entries → ReadsTo bytes more new
reads_on bytes rest more e old new to line built short read one events =
    let there = in_order_is to.past (e ∷ []) in
    record {
      past = e ∷ to.past;
      read = read;
      text =
          ap (λ (es : List Entry). text_of es ++ more) there
          ∙ ap (λ (t : List ℕ). t ++ more) (text_append (in_order to.past []) (e ∷ []) ∙ ap (λ (t : List ℕ). text_of (in_order to.past []) ++ t) (append-nil (text_of_entry e)))
          ∙ append_assoc (text_of (in_order to.past [])) (text_of_entry e) more
          ∙ ap (λ (t : List ℕ). text_of (in_order to.past []) ++ t) (sym line)
          ∙ to.text;
      built = subst AreBuilt (sym there) (built_push (in_order to.past []) e to.built built);
      few = omega (arith, one, short, to.few);
      events = events;
    }

-- ---- a line that is no entry's text
pub first_bad :
    (bytes rest : List ℕ) (s : Reading) (to : ReadsTo bytes rest s) → (rest ≡ [] → ⊥) → IsNoLine rest →
    IsFirstBad bytes (s.entries + 1)
first_bad bytes rest s to some bad =
    record {
      before = in_order to.past [];
      built = to.built;
      rest = rest;
      whole = sym to.text;
      counted = ap (λ (n : ℕ). n + 1) (to.read.counted ∙ sym (in_order_length to.past [] ∙ none (length to.past)));
      some = some;
      bad = bad;
    } where
      none : (n : ℕ) → n + 0 ≡ n
      none n = omega arith

pub bad_is_unlawful :
    (bytes rest : List ℕ) (s : Reading) (to : ReadsTo bytes rest s) → (rest ≡ [] → ⊥) → IsNoLine rest →
    IsLawfulTrace bytes → ⊥
bad_is_unlawful bytes rest s to some bad lawful =
    no_bad (in_order to.past []) lawful.entries rest to.built lawful.text.1 some bad (to.text ∙ sym lawful.text.0)

-- ---- all lines
pub is_trace : (bytes rest : List ℕ) (s : Reading) (to : ReadsTo bytes rest s) → rest ≡ [] → IsTrace (in_order to.past []) bytes
is_trace bytes rest s to done = (
  sym (append-nil (text_of (in_order to.past []))) ∙ ap (λ (r : List ℕ). text_of (in_order to.past []) ++ r) (sym done) ∙ to.text,
  to.built,
)

pub entries_are : (bytes rest : List ℕ) (s : Reading) (to : ReadsTo bytes rest s) → s.entries ≡ length (in_order to.past [])
entries_are bytes rest s to = to.read.counted ∙ sym (in_order_length to.past [] ∙ none (length to.past)) where
  none : (n : ℕ) → n + 0 ≡ n
  none n = omega arith

pub is_lawful : (bytes : List ℕ) (es : List Entry) (calls : ℕ) → length bytes ≤ most_trace → IsTrace es bytes → IsVerdict es (verdict.Lawful calls) → IsLawfulTrace bytes
is_lawful bytes es calls few text v =
    record { entries = es; few = few; text = text; lives = v.0; answers = v.1; kills = v.2; areas = v.3 }

pub is_unlawful : (bytes : List ℕ) (es : List Entry) (k : ℕ) → IsTrace es bytes → IsVerdict es (verdict.Breaks k) → IsLawfulTrace bytes → ⊥
is_unlawful bytes es k text v lawful =
    let same : lawful.entries ≡ es = one_list lawful.entries es lawful.text.1 text.1 (lawful.text.0 ∙ sym text.0) in
    elim v [
      | inl one ↦ one.1 (subst LivesAreLawful same lawful.lives)
      | inr two ↦ elim two [
        | inl answers ↦ answers.2 (subst AnsweredAtMostOnce same lawful.answers)
        | inr three ↦ elim three [
          | inl kills ↦ kills.3 (subst KillEndsHeldCalls same lawful.kills)
          | inr areas ↦ areas.4 (subst AreasAreLawful same lawful.areas)
        ]
      ]
    ]
