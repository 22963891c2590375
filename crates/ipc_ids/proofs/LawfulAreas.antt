-- The law of shared areas holds of a list whose entries were each lawful as they came; and facts on
-- entries, the newest first.
use Rattle.std.proofs.Common.{◌≡◌, List, [], ◌∷◌, ◌++◌, refl, inl, inr}
use Rattle.ipc_ids.specs.declared.numbers.TaskNo.{TaskNo}
use Rattle.ipc_ids.specs.declared.entry.Entry.{Entry}
use Rattle.ipc_ids.specs.declared.entry.Entry.TheVariants as entry
use Rattle.ipc_ids.specs.Holdings.{on_top, newest_first}
use Rattle.ipc_ids.specs.AreaLaw.{TakesRead, IsLawfulEntry, AllLawful, AreasAreLawful, WereLawful}

read_later : (p : List Entry) (t : TaskNo) (later : List Entry) → TakesRead t p [] → TakesRead t p later
read_later p t later takes =
    (takes.0, takes.1, takes.2, elim takes.3 [ inl before ↦ inl before | inr after ↦ absurd after ])

-- an entry that was lawful as it came is so whatever came later
lawful_later : (p : List Entry) (e : Entry) (later : List Entry) → IsLawfulEntry p e [] → IsLawfulEntry p e later
lawful_later p (entry.AreaMade t base pages rights store) later l = l
lawful_later p (entry.Wrote t at count store) later l =
    (elim l.0 [ inl pokes ↦ inl pokes | inr more ↦ inr (elim more [ inl accepts ↦ inl accepts | inr takes ↦ inr (read_later p t later takes) ]) ], l.1)
lawful_later p _ later l = tt

-- what was lawful stays so as entries are taken off
pub were_before : (es p : List Entry) → WereLawful (on_top es p) → WereLawful p
were_before [] p l = l
were_before (e ∷ es) p l = let m : WereLawful (e ∷ p) = were_before es (e ∷ p) l in m.0

all_lawful : (es p : List Entry) → WereLawful (on_top es p) → AllLawful p es
all_lawful [] p l = tt
all_lawful (e ∷ es) p l =
    let m : WereLawful (e ∷ p) = were_before es (e ∷ p) l in (lawful_later p e es m.1, all_lawful es (e ∷ p) l)

pub areas_are_lawful : (h : List Entry) → WereLawful (newest_first h) → AreasAreLawful h
areas_are_lawful h l = all_lawful h [] l

pub on_top-append : (xs ys p : List Entry) → on_top (xs ++ ys) p ≡ on_top ys (on_top xs p)
on_top-append [] ys p = refl
on_top-append (x ∷ xs) ys p = on_top-append xs ys (x ∷ p)

-- the entries of a list that goes on
pub newest_first-append : (xs ys : List Entry) → newest_first (xs ++ ys) ≡ on_top ys (newest_first xs)
newest_first-append xs ys = on_top-append xs ys []
