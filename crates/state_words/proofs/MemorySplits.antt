-- The memory is read again from its words, and so is all of the kernel's state but the count of events and the stamps of calls.
use Rattle.std.proofs.Common.{ℕ, ◌≡◌, Bool, List, ◌++◌, refl, sym, ◌∙◌, ap, subst, append_assoc}
use Rattle.ipc_ids.specs.declared.message.PhoneState.{PhoneState}
use Rattle.answerbox.specs.Calls.{CallTable}
use Rattle.address_space.specs.Areas.{Area}
use Rattle.address_space.specs.Memory.{Memory}
use Rattle.state_words.specs.Words.{number_words, list_words, bool_words, rows_words}
use Rattle.state_words.specs.CallWords.{table_words}
use Rattle.state_words.specs.MemoryWords.{marks_words, area_words, areas_words, bytes_words, map_from, memory_words}
use Rattle.state_words.specs.KernelWords.{parts_words}
use Rattle.state_words.proofs.Splits.{Splits, pair_splits, by_splits, list_splits, number_splits, rows_splits}
use Rattle.state_words.specs.Apart.{AreBelow, AreUnder, AreOld, AreSame}
use Rattle.state_words.proofs.CallSplits.{bool_splits, table_split}
use Rattle.state_words.proofs.MapSplits.{map_split}

pub marks_splits : Splits marks_words
marks_splits = list_splits bool_words bool_splits

pub bytes_splits : Splits bytes_words
bytes_splits = list_splits number_words number_splits

abbrev Four : Type 0
Four = ℕ × (ℕ × (ℕ × ℕ))

pub area_splits : Splits area_words
area_splits =
    by_splits (λ (p : Four). number_words p.0 ++ (number_words p.1.0 ++ (number_words p.1.1.0 ++ number_words p.1.1.1)))
    (pair_splits number_words (λ (p : ℕ × (ℕ × ℕ)). number_words p.0 ++ (number_words p.1.0 ++ number_words p.1.1)) number_splits
    (pair_splits number_words (λ (p : ℕ × ℕ). number_words p.0 ++ number_words p.1) number_splits (pair_splits number_words number_words number_splits number_splits)))
    (λ (a : Area). (a.base, (a.pages, (a.rights, a.store)))) (λ p. record { base = p.0; pages = p.1.0; rights = p.1.1.0; store = p.1.1.1 }) (λ _. refl)

pub areas_splits : Splits areas_words
areas_splits = list_splits area_words area_splits

pub memory_split : (a b : Memory) (s t : List ℕ) → AreOld a → AreOld b → memory_words a ++ s ≡ memory_words b ++ t → (a ≡ b) × (s ≡ t)
memory_split a b s t h k e =
    let n : a.next_store ≡ b.next_store = cc in
    let stores : Memory → List ℕ = λ (m : Memory). map_from bytes_words m.stores 0 m.next_store in
    let areas : Memory → List ℕ = λ (m : Memory). list_words areas_words m.areas in
    let f : (areas a ++ stores a) ++ s ≡ (areas b ++ stores b) ++ t = cc in
    let g : areas a ++ (stores a ++ s) ≡ areas b ++ (stores b ++ t) = sym (append_assoc (areas a) (stores a) s) ∙ f ∙ append_assoc (areas b) (stores b) t in
    let r = (list_splits areas_words areas_splits).split a.areas b.areas (stores a ++ s) (stores b ++ t) g in
    let i : map_from bytes_words a.stores 0 a.next_store ++ s ≡ map_from bytes_words b.stores 0 a.next_store ++ t = r.1 ∙ ap (λ (z : ℕ). map_from bytes_words b.stores 0 z ++ t) (sym n) in
    let l : AreUnder b.stores a.next_store = subst (λ (z : ℕ). AreUnder b.stores z) (sym n) k in
    let m = map_split bytes_words bytes_splits a.stores b.stores a.next_store s t h l i in
    (ap (λ z. record a { areas = z }) r.0 ∙ ap (λ z. record a { areas = b.areas; stores = z }) m.0 ∙ ap (λ z. record b { next_store = z }) n, m.1)

-- the parts of a kernel are those of its words
pub parts_split : (alive alive' : List Bool) (phones phones' : List (List PhoneState)) (calls calls' : CallTable) (memory memory' : Memory) (s t : List ℕ) → AreBelow calls → AreBelow calls' → AreOld memory → AreOld memory' → parts_words alive phones calls memory ++ s ≡ parts_words alive' phones' calls' memory' ++ t → AreSame alive alive' phones phones' calls calls' memory memory' s t
parts_split alive alive' phones phones' calls calls' memory memory' s t h h' k k' e =
    let u = rows_words phones ++ (table_words calls ++ memory_words memory) in
    let u' = rows_words phones' ++ (table_words calls' ++ memory_words memory') in
    let v = table_words calls ++ memory_words memory in
    let v' = table_words calls' ++ memory_words memory' in
    let a = marks_splits.split alive alive' (u ++ s) (u' ++ t) (sym (append_assoc (marks_words alive) u s) ∙ e ∙ append_assoc (marks_words alive') u' t) in
    let p = rows_splits.split phones phones' (v ++ s) (v' ++ t) (sym (append_assoc (rows_words phones) v s) ∙ a.1 ∙ append_assoc (rows_words phones') v' t) in
    let c = table_split calls calls' (memory_words memory ++ s) (memory_words memory' ++ t) h h' (sym (append_assoc (table_words calls) (memory_words memory) s) ∙ p.1 ∙ append_assoc (table_words calls') (memory_words memory') t) in
    let m = memory_split memory memory' s t k k' c.1 in
    record { alive = a.0; phones = p.0; calls = c.0; spaces = m.0; rest = m.1 }
