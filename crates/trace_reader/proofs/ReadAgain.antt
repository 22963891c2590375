-- The words of an entry are read as that entry.
use Rattle.std.proofs.Common.{ℕ, ◌≡◌, ◌<◌, ◌≤◌, ◌+◌, ◌-◌, ◌^◌, Bool, true, false, List, [], ◌∷◌, ◌++◌, Some, None, refl, sym, ap, ◌∙◌, arith, length, append_assoc, subst, suc, inl, inr, decimal}
use Rattle.std.proofs.lemmas.Bool.{cases_lt}
use Rattle.std.proofs.lemmas.Grind.{common_steps}
use Rattle.std.proofs.lemmas.Fmt.{decimal_is_IsNumeral}
use Rattle.std.specs.Prelude.{codes, slice_index, Result, Err}
use Rattle.std.specs.Str.Parse.{AllDigits}
use Rattle.std.proofs.lemmas.List.{append-nil}
use Rattle.ipc_ids.specs.declared.numbers.TaskNo.{TaskNo}
use Rattle.ipc_ids.specs.declared.numbers.Code.{Code}
use Rattle.ipc_ids.specs.declared.message.Mode.{Mode}
use Rattle.ipc_ids.specs.declared.message.Mode.TheVariants.{Plain, Route}
use Rattle.ipc_ids.specs.declared.message.ExchangeMode.{ExchangeMode}
use Rattle.ipc_ids.specs.declared.message.ExchangeMode.TheVariants.{Atomic, Serialize, Parallel}
use Rattle.ipc_ids.specs.declared.message.Why.TheVariants as why
use Rattle.ipc_ids.specs.declared.message.PhoneState.TheVariants as phone
use Rattle.ipc_ids.specs.declared.message.Request.{Request}
use Rattle.ipc_ids.specs.declared.message.Request.TheVariants as ask
use Rattle.ipc_ids.specs.declared.message.Outcome.{Outcome}
use Rattle.ipc_ids.specs.declared.message.Outcome.TheVariants as got
use Rattle.ipc_ids.specs.declared.entry.Entry.{Entry}
use Rattle.ipc_ids.specs.declared.entry.Entry.TheVariants as entry
use Rattle.ipc_ids.specs.Codes.{eok}
use Rattle.ipc_ids.proofs.Common.{not_both}
use Rattle.trace_print.specs.Text.{text_of_entry, text_of, code_text, fibril_text, mode_text, exchange_mode_text}
use Rattle.trace_print.proofs.Lasts.{same_but_last}
use Rattle.trace_print.proofs.Texts.{text_append}
use Rattle.trace_reader.specs.Words.{number_of, code_of, before, behind}
use Rattle.trace_reader.specs.Line.{join, words_of, AreArgs, IsBuilt}
use Rattle.trace_reader.specs.Read.{entry_in, nth, read, IsPlain, outcome_in, mode_in, exchange_mode_in, is}
use Rattle.trace_reader.specs.Trace.{IsNoLine, AreBuilt, IsFirstBad}
use Rattle.trace_reader.specs.declared.beside.TraceFault.{TraceFault}
use Rattle.trace_reader.specs.declared.beside.TraceFault.TheVariants.{Bad}
use Rattle.trace_reader.proofs.Parts.{nths, parts_join, lacks_join, before_mark, before_all, is_marked, whole_cut}
use Rattle.trace_reader.proofs.Again.{one_more, large_code, number_again, small_again, task_again, label_again, owner_again, fibril_again, code_again, bytes_again}
use Rattle.trace_reader.proofs.Joined.{is_joined, words_lack}

-- what the words of the entry are read as
abbrev pub IsSame : Entry → Type 0
IsSame e = entry_in (nth (nths 13 0 (words_of e))) ≡ e

five_again : (a : List ℕ) → length a ≡ 5 → slice_index a 0 ∷ slice_index a 1 ∷ slice_index a 2 ∷ slice_index a 3 ∷ slice_index a 4 ∷ [] ≡ a
five_again (a ∷ b ∷ c ∷ d ∷ e ∷ []) h = refl
five_again [] h = absurd (omega (arith, h))
five_again (a ∷ []) h = absurd (omega (arith, h))
five_again (a ∷ b ∷ []) h = absurd (omega (arith, h))
five_again (a ∷ b ∷ c ∷ []) h = absurd (omega (arith, h))
five_again (a ∷ b ∷ c ∷ d ∷ []) h = absurd (omega (arith, h))
five_again (a ∷ b ∷ c ∷ d ∷ e ∷ f ∷ g) h = absurd (omega (arith, h))

args_again : (a : List ℕ) → AreArgs a →
    number_of (decimal (slice_index a 0)) ∷ number_of (decimal (slice_index a 1)) ∷ number_of (decimal (slice_index a 2)) ∷ number_of (decimal (slice_index a 3)) ∷ number_of (decimal (slice_index a 4)) ∷ [] ≡ a
args_again a are =
    rw (number_again (slice_index a 0) (are.small 0), number_again (slice_index a 1) (are.small 1), number_again (slice_index a 2) (are.small 2), number_again (slice_index a 3) (are.small 3), number_again (slice_index a 4) (are.small 4)) (five_again a are.five)

mode_again : (m : Mode) → mode_in (mode_text m) ≡ m
mode_again Plain = refl
mode_again Route = refl

exchange_mode_again : (m : ExchangeMode) → exchange_mode_in (exchange_mode_text m) ≡ m
exchange_mode_again Atomic = refl
exchange_mode_again Serialize = refl
exchange_mode_again Parallel = refl

-- ---- refusals
abbrev refusal_in : List ℕ → Outcome
refusal_in w = outcome_in (nth (nths 13 0 ([] ∷ [] ∷ codes "=" ∷ w ∷ [])))

abbrev RefusalAgain : ℕ → Type 0
RefusalAgain k = refusal_in (code_text (record { 0 = suc k })) ≡ got.Refused (record { 0 = suc k })

small_refusal : (k : ℕ) → k < 9 → RefusalAgain k
small_refusal =
    (one_more RefusalAgain 8 (one_more RefusalAgain 7 (one_more RefusalAgain 6 (one_more RefusalAgain 5 (one_more RefusalAgain 4 (one_more RefusalAgain 3 (one_more RefusalAgain 2 (one_more RefusalAgain 1 (one_more RefusalAgain 0 (λ k h. absurd (omega (arith, h))) refl) refl) refl) refl) refl) refl) refl) refl) refl)

-- digits are no word that begins with a letter
no_word : (letter : ℕ) (v w : List ℕ) → 58 ≤ letter → 0 < length w → AllDigits 10 w → is w (letter ∷ v) ≡ false
no_word letter v [] low some h = absurd (omega (arith, some))
no_word letter v (d ∷ w) low some h = grind (arith, common_steps, h.0)

large_refusal : (c : Code) → 10 ≤ c.0 → c.0 < 2 ^ 64 → refusal_in (code_text c) ≡ got.Refused c
large_refusal c large h =
    let own = decimal_is_IsNumeral c.0 h in
    let text : code_text c ≡ decimal c.0 = large_code c large in
    let no : (letter : ℕ) (v : List ℕ) → 58 ≤ letter → is (decimal c.0) (letter ∷ v) ≡ false = λ letter v low. no_word letter v (decimal c.0) low own.0.0 own.0.1 in
    ap refusal_in text
    ∙ rw (no 69 (codes "OK") (omega arith), no 69 (codes "MPTY") (omega arith), no 99 (codes "all") (omega arith), no 114 (codes "eceived") (omega arith), no 97 (codes "nswer") (omega arith), no 98 (codes "ytes") (omega arith)) (ap got.Refused (ap code_of (sym text) ∙ code_again c h))

refusal_again : (c : Code) → c.0 < 2 ^ 64 → (c.0 ≡ 0 → ⊥) → refusal_in (code_text c) ≡ got.Refused c
refusal_again c h some =
    elim (cases_lt c.0 10) [
      | inl small ↦
          let one : suc (c.0 - 1) ≡ c.0 = omega (arith, some) in
          subst (λ (n : ℕ). refusal_in (code_text (record { 0 = n })) ≡ got.Refused (record { 0 = n })) one (small_refusal (c.0 - 1) (omega (arith, small, some)))
      | inr large ↦ large_refusal c (omega (arith, large)) h
    ]

-- ---- each kind of entry
some_number : (n : ℕ) → n < 2 ^ 64 → is (decimal n) [] ≡ false
some_number n h = some (decimal n) (decimal_is_IsNumeral n h).0.0 where
  some : (w : List ℕ) → 0 < length w → is w [] ≡ false
  some [] h = absurd (omega (arith, h))
  some (d ∷ w) h = refl

same_request : (t : TaskNo) (r : Request) → IsBuilt (entry.Head t r) → IsSame (entry.Head t r)
same_request t (ask.Call p m) b = rw (task_again t b.0, number_again p b.1.0, number_again m.method b.1.1.0, args_again m.args b.1.1.1.0) refl
same_request t ask.Receive b = rw (task_again t b.0) refl
same_request t (ask.Answer n r) b = rw (task_again t b.0, number_again n b.1.0, code_again r.code b.1.1.0, args_again r.args b.1.1.1.0) refl
same_request t (ask.Forward n p mode None) b = rw (task_again t b.0, number_again n b.1.0, number_again p b.1.1.0, mode_again mode) refl
same_request t (ask.Forward n p mode (Some m)) b =
    rw (task_again t b.0, number_again n b.1.0, number_again p b.1.1.0, mode_again mode, some_number m.method b.1.1.1.0, number_again m.method b.1.1.1.0, args_again m.args b.1.1.1.1.0) refl
same_request t (ask.Hangup p) b = rw (task_again t b.0, number_again p b.1.0) refl
same_request t (ask.AreaMake base pages rights) b =
    rw (task_again t b.0, number_again base b.1.0, number_again pages b.1.1.0, number_again rights b.1.1.1.0) refl
same_request t (ask.AreaDrop base) b = rw (task_again t b.0, number_again base b.1.0) refl
same_request t (ask.Poke at bytes) b = rw (task_again t b.0, number_again at b.1.0, bytes_again bytes b.1.1.0.0 b.1.1.0.1) refl
same_request t (ask.Peek at count) b = rw (task_again t b.0, number_again at b.1.0, number_again count b.1.1.0) refl
same_request t ask.Nothing b = rw (task_again t b.0) refl

same_outcome : (o : Outcome) → IsBuilt (entry.Outcome o) → IsSame (entry.Outcome o)
same_outcome got.Done b = refl
same_outcome (got.Refused c) b = ap (λ (o : Outcome). entry.Outcome o) (refusal_again c b.0.0 b.0.1)
same_outcome (got.Accepted n) b = rw (number_again n.0 b.0) refl
same_outcome (got.Received n m l) b =
    rw (number_again n.0 b.0, number_again m.method b.1.0, args_again m.args b.1.1.0, label_again l b.1.1.1.0.0 b.1.1.1.0.1) refl
same_outcome (got.Answered n r) b = rw (number_again n.0 b.0, code_again r.code b.1.0, args_again r.args b.1.1.0) refl
same_outcome got.Empty b = refl
same_outcome (got.Bytes bytes) b = rw (bytes_again bytes b.0.0 b.0.1) refl

pub same : (e : Entry) → IsBuilt e → IsSame e
unfolding fibril_text
same (entry.Head t r) b = same_request t r b
same (entry.Kill t) b = rw (task_again t b.0) refl
same (entry.Gone t) b = rw (task_again t b.0) refl
same (entry.Spawn t) b = rw (task_again t b.0) refl
same (entry.Outcome o) b = same_outcome o b
same (entry.Accepted n l m None) b = rw (number_again n.0 b.0, label_again l b.1.0.0 b.1.0.1, number_again m b.1.1.0) refl
same (entry.Accepted n l m (Some t)) b =
    rw (number_again n.0 b.0, label_again l b.1.0.0 b.1.0.1, number_again m b.1.1.0, task_again t b.1.1.1.0) refl
same (entry.Received n t) b = rw (number_again n.0 b.0, task_again t b.1.0) refl
same (entry.Forwarded n t to l) b =
    rw (number_again n.0 b.0, task_again t b.1.0, task_again to b.1.1.0, label_again l b.1.1.1.0.0 b.1.1.1.0.1) refl
same (entry.Answered n r None) b = rw (number_again n.0 b.0, code_again r.code b.1.0, args_again r.args b.1.1.0) refl
same (entry.Answered n r (Some t)) b =
    rw (number_again n.0 b.0, code_again r.code b.1.0, args_again r.args b.1.1.0, task_again t b.1.1.1.0) refl
same (entry.Vanished n) b = rw (number_again n.0 b.0) refl
same (entry.Delivered n t) b = rw (number_again n.0 b.0, task_again t b.1.0) refl
same (entry.Dropped n t) b = rw (number_again n.0 b.0, task_again t b.1.0) refl
same (entry.Forgotten n) b = rw (number_again n.0 b.0) refl
same (entry.PhoneIs l (phone.Connected t)) b = rw (label_again l b.0.0 b.0.1, task_again t b.1.0) refl
same (entry.PhoneIs l _) b = rw (label_again l b.0.0 b.0.1) refl
same (entry.AreaMade t base pages rights s) b =
    rw (task_again t b.0, number_again base b.1.0, number_again pages b.1.1.0, number_again rights b.1.1.1.0, number_again s.0 b.1.1.1.1.0) refl
same (entry.AreaGone t base) b = rw (task_again t b.0, number_again base b.1.0) refl
same (entry.Wrote t at count s) b =
    rw (task_again t b.0, number_again at b.1.0, number_again count b.1.1.0, number_again s.0 b.1.1.1.0) refl
same (entry.Sent t f n None) b = rw (owner_again t f b.0.0, fibril_again t f b.0.0 b.0.1, number_again n.0 b.1.0) refl
same (entry.Sent t f n (Some k)) b =
    rw (owner_again t f b.0.0, fibril_again t f b.0.0 b.0.1, number_again n.0 b.1.0, small_again k b.1.1.0) refl
same (entry.Gets t f n None r) b =
    rw (owner_again t f b.0.0, fibril_again t f b.0.0 b.0.1, number_again n.0 b.1.0, code_again r.code b.1.1.0, args_again r.args b.1.1.1.0) refl
same (entry.Gets t f n (Some k) r) b =
    rw (owner_again t f b.0.0, fibril_again t f b.0.0 b.0.1, number_again n.0 b.1.0, small_again k b.1.1.0, code_again r.code b.1.1.1.0, args_again r.args b.1.1.1.1.0) refl
same (entry.Blocks t f (why.Answer n)) b = rw (owner_again t f b.0.0, fibril_again t f b.0.0 b.0.1, number_again n.0 b.1.0) refl
same (entry.Blocks t f (why.Mutex s)) b = rw (owner_again t f b.0.0, fibril_again t f b.0.0 b.0.1, small_again s b.1.0) refl
same (entry.Blocks t f _) b = rw (owner_again t f b.0.0, fibril_again t f b.0.0 b.0.1) refl
same (entry.Starts t f l) b = rw (owner_again t f b.0.0, fibril_again t f b.0.0 b.0.1, label_again l b.1.0.0 b.1.0.1) refl
same (entry.Ends t f) b = rw (owner_again t f b.0.0, fibril_again t f b.0.0 b.0.1) refl
same (entry.Begins t f x mode s p) b =
    rw (owner_again t f b.0.0, fibril_again t f b.0.0 b.0.1, number_again x.0 b.1.0, exchange_mode_again mode, small_again s b.1.1.0, number_again p b.1.1.1.0) refl
same (entry.ExchangeEnds t f x) b = rw (owner_again t f b.0.0, fibril_again t f b.0.0 b.0.1, number_again x.0 b.1.0) refl
same (entry.Drops t f x) b = rw (owner_again t f b.0.0, fibril_again t f b.0.0 b.0.1, number_again x.0 b.1.0) refl
same (entry.RefusedOp t f c) b = rw (owner_again t f b.0.0, fibril_again t f b.0.0 b.0.1, code_again c b.1.0) refl

pub read_again : (e : Entry) → IsBuilt e → read (join (words_of e)) ≡ e
read_again e b = ap (λ (ws : List (List ℕ)). entry_in (nth ws)) (parts_join 13 0 (words_of e) (words_lack e b).0) ∙ same e b

-- the line of an entry is read as that entry
pub line_again : (e : Entry) (line : List ℕ) → IsBuilt e → text_of_entry e ≡ line ++ 10 ∷ [] → read line ≡ e
line_again e line b text =
    let same : line ≡ join (words_of e) = (same_but_last line (join (words_of e)) 10 10 (sym text ∙ is_joined e)).0 in
    ap read same ∙ read_again e b

-- the line of an entry has no line feed inside
pub whole_line : (e : Entry) (line : List ℕ) → IsBuilt e → text_of_entry e ≡ line ++ 10 ∷ [] → length (before 10 line) ≡ length line
whole_line e line b text =
    let same : line ≡ join (words_of e) = (same_but_last line (join (words_of e)) 10 10 (sym text ∙ is_joined e)).0 in
    ap (λ (l : List ℕ). length (before 10 l)) same
    ∙ ap length (before_all 10 (join (words_of e)) (lacks_join (words_of e) (words_lack e b).1))
    ∙ sym (ap length same)

not_refused : (a : Entry) → a ≡ entry.Outcome got.Done → a ≡ entry.Outcome (got.Refused eok) → ⊥
not_refused a h k = cc

-- no line is read as a refusal with EOK, if its text is the line
pub is_plain : (line : List ℕ) → text_of_entry (read line) ≡ line ++ 10 ∷ [] → IsPlain (read line)
is_plain line text e =
    let same : codes "  = EOK" ≡ line = (same_but_last (codes "  = EOK") line 10 10 (sym (ap text_of_entry e) ∙ text)).0 in
    not_refused (read (codes "  = EOK")) refl (ap read same ∙ e)

pub unread :
    (e : Entry) (line : List ℕ) (b : Bool) → (text_of_entry (read line) ≡ line ++ 10 ∷ [] → b ≡ true) → b ≡ false →
    IsBuilt e → text_of_entry e ≡ line ++ 10 ∷ [] → ⊥
unread e line b test no_test built text =
    not_both (test (ap text_of_entry (line_again e line built text) ∙ text)) no_test

-- bytes that begin with the text of an entry begin with its words and a line feed
pub first_of :
    (e : Entry) (rest more : List ℕ) → IsBuilt e → rest ≡ text_of_entry e ++ more → rest ≡ join (words_of e) ++ 10 ∷ more
first_of e rest more b h =
    h ∙ ap (λ (t : List ℕ). t ++ more) (is_joined e) ∙ append_assoc (join (words_of e)) (10 ∷ []) more

pub no_feed : (rest : List ℕ) → length (before 10 rest) ≡ length rest → IsNoLine rest
no_feed rest whole e more b h =
    let at : rest ≡ join (words_of e) ++ 10 ∷ more = first_of e rest more b h in
    let short : length (before 10 rest) < length rest = subst (λ (t : List ℕ). length (before 10 t) < length t) (sym at) (is_marked 10 (join (words_of e)) more) in
    absurd (omega (arith, whole, short))

pub not_read :
    (rest line : List ℕ) → line ≡ before 10 rest →
    ((e : Entry) → IsBuilt e → text_of_entry e ≡ line ++ 10 ∷ [] → ⊥) → IsNoLine rest
not_read rest line is none e more b h =
    let at : rest ≡ join (words_of e) ++ 10 ∷ more = first_of e rest more b h in
    let same : line ≡ join (words_of e) = is ∙ ap (before 10) at ∙ before_mark 10 (join (words_of e)) more (lacks_join (words_of e) (words_lack e b).1) in
    none e b (is_joined e ∙ ap (λ (l : List ℕ). l ++ 10 ∷ []) (sym same))

pub built_push : (es : List Entry) (e : Entry) → AreBuilt es → IsBuilt e → AreBuilt (es ++ e ∷ [])
built_push [] e h k = (k, tt)
built_push (x ∷ es) e h k = (h.0, built_push es e h.1 k)

-- a line whose text was found, and what stands behind it
pub first_line :
    (e : Entry) (bytes line : List ℕ) → line ≡ before 10 bytes → length (before 10 bytes) < length bytes →
    text_of_entry e ≡ line ++ 10 ∷ [] → bytes ≡ text_of_entry e ++ behind 10 bytes
first_line e bytes line is low here =
    whole_cut 10 bytes low
    ∙ sym (append_assoc (before 10 bytes) (10 ∷ []) (behind 10 bytes))
    ∙ ap (λ (t : List ℕ). t ++ behind 10 bytes) (ap (λ (l : List ℕ). l ++ 10 ∷ []) (sym is) ∙ sym here)

pub behind_is_shorter : (bytes : List ℕ) → length (before 10 bytes) < length bytes → length (behind 10 bytes) < length bytes
behind_is_shorter [] low = absurd (omega (arith, low))
behind_is_shorter (b ∷ bytes) low = grind (arith, behind_is_shorter bytes)

-- one more line
pub read_on :
    (es : List Entry) (e : Entry) (bytes rest more : List ℕ) → text_of es ++ rest ≡ bytes → AreBuilt es → IsBuilt e →
    rest ≡ text_of_entry e ++ more → (text_of (es ++ e ∷ []) ++ more ≡ bytes) × AreBuilt (es ++ e ∷ [])
read_on es e bytes rest more text built own line = (
  ap (λ (t : List ℕ). t ++ more) (text_append es (e ∷ []) ∙ ap (λ (t : List ℕ). text_of es ++ t) (append-nil (text_of_entry e)))
      ∙ append_assoc (text_of es) (text_of_entry e) more
      ∙ ap (λ (t : List ℕ). text_of es ++ t) (sym line)
      ∙ text,
  built_push es e built own,
)

same_line : {A : Type 0} (a b : ℕ) → (let x : Result A TraceFault = Err (Bad a) in x ≡ Err (Bad b)) → a ≡ b
same_line a b h = cc

pub first_bad :
    {A : Type 0} (bytes rest : List ℕ) (es : List Entry) (line : ℕ) → text_of es ++ rest ≡ bytes → AreBuilt es → 0 < length rest → IsNoLine rest →
    (let x : Result A TraceFault = Err (Bad (length es + 1)) in x ≡ Err (Bad line)) → IsFirstBad bytes line
first_bad bytes rest es line text built some bad h =
    record {
      before = es;
      built = built;
      rest = rest;
      whole = sym text;
      counted = sym (same_line (length es + 1) line h);
      some = λ e. absurd (omega (arith, some, ap length e));
      bad = bad;
    }
