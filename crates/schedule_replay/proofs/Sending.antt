-- Bytes that are sent in steps.
use Rattle.std.proofs.Common.{◌≡◌, ◌<◌, ◌+◌, ◌++◌, [], ◌∷◌, List, ℕ, ap, sym, ◌∙◌, subst, append_assoc, take, drop, length, min, arith, Option, Some, None, Result, Ok, Err, OnErr, get_or, append-nil}
use Rattle.std.proofs.Math.Seq.{take-append-add}
use Rattle.std.proofs.lemmas.List.{take-append-le, take_all, take_min, take_more, take-append-drop}
use Rattle.std.specs.Io.KnownBytes.{Appends}
use Rattle.io_edge.specs.Edge.{AppendsStart}
use Rattle.ipc_ids.specs.declared.entry.Entry.{Entry}
use Rattle.trace_print.specs.Text.{text_of_entry, text_of}
use Rattle.trace_print.proofs.Texts.{text_append}
use Rattle.schedule_replay.specs.Streaming.{Sent}

-- nothing written
pub appends_none : (s : Option (List ℕ)) → Appends s s []
appends_none None = tt
appends_none (Some xs) = sym (append-nil xs)

pub starts_none : (s : Option (List ℕ)) (t : List ℕ) → AppendsStart s s t
starts_none s t = (0, appends_none s)

-- a text is the whole of its first part
pub starts_all : (s n : Option (List ℕ)) (piece text : List ℕ) → piece ≡ text → Appends s n piece → AppendsStart s n text
starts_all s n piece text is h = (length text, subst (λ (v : List ℕ). Appends s n v) (is ∙ sym (take_all (length text) text (omega arith))) h)

-- what holds is also so on an error
pub on_error : (A E : Type 0) (r : Result A E) (P : Type 0) → P → OnErr r P
on_error A E (Ok x) P h = tt
on_error A E (Err x) P h = h

-- one step after another
pub appends_on : (s n m : Option (List ℕ)) (d e : List ℕ) → Appends s n d → Appends n m e → Appends s m (d ++ e)
appends_on None n m d e h k = tt
appends_on (Some xs) None m d e h k = absurd h
appends_on (Some xs) (Some ys) None d e h k = absurd k
appends_on (Some xs) (Some ys) (Some zs) d e h k = k ∙ ap (λ v. v ++ e) h ∙ append_assoc xs d e

-- more of the text goes through the buffer
pub sent_on : (s n m : Option (List ℕ)) (b c t x : List ℕ) → Sent s n b t → Sent n m c (b ++ x) → Sent s m c (t ++ x)
sent_on s n m b c t x h k =
    let all : (h.0 ++ k.0) ++ c ≡ t ++ x = append_assoc h.0 k.0 c ∙ ap (λ v. h.0 ++ v) k.2 ∙ sym (append_assoc h.0 b x) ∙ ap (λ v. v ++ x) h.2 in
    (h.0 ++ k.0, appends_on s n m h.0 k.0 h.1 k.1, all)

-- with more in the buffer
pub sent_more : (s n : Option (List ℕ)) (b t x : List ℕ) → Sent s n b t → Sent s n (b ++ x) (t ++ x)
sent_more s n b t x h = (h.0, h.1, sym (append_assoc h.0 b x) ∙ ap (λ v. v ++ x) h.2)

-- a part of the buffer was written
pub sent_starts : (s n m : Option (List ℕ)) (b t : List ℕ) → Sent s n b t → AppendsStart n m b → AppendsStart s m t
sent_starts s n m b t h k =
    let part : h.0 ++ take k.0 b ≡ take (length h.0 + k.0) t = sym (take-append-add h.0 b k.0) ∙ ap (take (length h.0 + k.0)) h.2 in
    (length h.0 + k.0, subst (λ (v : List ℕ). Appends s m v) part (appends_on s n m h.0 (take k.0 b) h.1 k.1))

-- a prefix of a text is one of a longer text
pub starts_wider : (s n : Option (List ℕ)) (a c : List ℕ) → AppendsStart s n a → AppendsStart s n (a ++ c)
starts_wider s n a c h =
    let same : take h.0 a ≡ take (min h.0 (length a)) (a ++ c) = sym (take-append-le (min h.0 (length a)) a c (omega arith) ∙ take_min h.0 a) in
    (min h.0 (length a), subst (λ (v : List ℕ). Appends s n v) same h.1)

-- the text of one more entry
pub more_text : (es : List Entry) (i : ℕ) (d : Entry) → i < length es → text_of (take (i + 1) es) ≡ text_of (take i es) ++ text_of_entry (get_or es i d)
more_text es i d h = ap text_of (take_more es i d h) ∙ text_append (take i es) (get_or es i d ∷ []) ∙ ap (λ v. text_of (take i es) ++ v) (append-nil (text_of_entry (get_or es i d)))

-- the text of the first entries begins the text of all
pub text_parts : (es : List Entry) (i : ℕ) → text_of (take i es) ++ text_of (drop i es) ≡ text_of es
text_parts es i = sym (text_append (take i es) (drop i es)) ∙ ap text_of (take-append-drop i es)

-- one more entry of a list goes through the buffer
pub one_more : (s n m : Option (List ℕ)) (b c a : List ℕ) (es : List Entry) (i : ℕ) (e : Entry) → i < length es → e ≡ get_or es i e → Sent s n b (a ++ text_of (take i es)) → Sent n m c (b ++ text_of_entry e) → Sent s m c (a ++ text_of (take (i + 1) es))
one_more s n m b c a es i e h is before more =
    let text : text_of (take i es) ++ text_of_entry e ≡ text_of (take (i + 1) es) = ap (λ v. text_of (take i es) ++ text_of_entry v) is ∙ sym (more_text es i e h) in
    let all : (a ++ text_of (take i es)) ++ text_of_entry e ≡ a ++ text_of (take (i + 1) es) = append_assoc a (text_of (take i es)) (text_of_entry e) ∙ ap (λ v. a ++ v) text in
    subst (λ (v : List ℕ). Sent s m c v) all (sent_on s n m b c (a ++ text_of (take i es)) (text_of_entry e) before more)

-- the put of an entry of a list failed
pub one_failed : (s n m : Option (List ℕ)) (b a : List ℕ) (es : List Entry) (i : ℕ) → Sent s n b (a ++ text_of (take i es)) → AppendsStart n m b → AppendsStart s m (a ++ text_of es)
one_failed s n m b a es i before part =
    let all : (a ++ text_of (take i es)) ++ text_of (drop i es) ≡ a ++ text_of es = append_assoc a (text_of (take i es)) (text_of (drop i es)) ∙ ap (λ v. a ++ v) (text_parts es i) in
    subst (λ (v : List ℕ). AppendsStart s m v) all (starts_wider s m (a ++ text_of (take i es)) (text_of (drop i es)) (sent_starts s n m b (a ++ text_of (take i es)) before part))
