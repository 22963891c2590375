-- The kinds of methods, the methods that they have, and the phone that a call of a connect kind keeps.
use Rattle.std.proofs.Common.{◌≡◌, ℕ, refl, Bool, true, false, Option, None, Some, ap, sym, ◌∙◌, nat_lt}
use Rattle.std.specs.Prelude.{⊤, ◌==◌, if◌then◌else◌}
use Rattle.std.proofs.lemmas.Bool.{eqb-true}
use Rattle.ipc_ids.specs.declared.numbers.Code.{Code}
use Rattle.ipc_ids.specs.declared.numbers.Label.{Label}
use Rattle.ipc_ids.specs.declared.numbers.TaskNo.{TaskNo}
use Rattle.ipc_ids.specs.declared.methods.MethodKind.{MethodKind}
use Rattle.ipc_ids.specs.declared.methods.MethodKind.TheVariants.{ConnectToMe, ConnectMeTo, DataWrite, DataRead, ShareOut, ShareIn}
use Rattle.ipc_ids.specs.Codes.{eok}
use Rattle.ipc_ids.specs.Methods.{kind_of, phone_hungup, connect_to_me, connect_me_to, data_write, data_read, share_out, share_in, first_user_method}
use Rattle.call_slab.specs.declared.call.Call.{Call}
use Rattle.call_slab.specs.declared.call.Place.{Place}
use Rattle.call_slab.specs.declared.call.Place.TheVariants.{Dispatched}
use Rattle.switchboard.specs.State.{Tasks}
use Rattle.switchboard.specs.Sound.{IsCaller}
use Rattle.switchboard.specs.Kept.{accepts, phone_of, kept_of, keeper_of, kept_phone}
use Rattle.switchboard.proofs.Repeats.{by_test}

-- what a kind of method says of the method
abbrev pub KindSays : MethodKind → ℕ → Type 0
KindSays ConnectToMe n = n ≡ connect_to_me
KindSays ConnectMeTo n = n ≡ connect_me_to
KindSays DataWrite n = n ≡ data_write
KindSays DataRead n = n ≡ data_read
KindSays ShareOut n = n ≡ share_out
KindSays ShareIn n = n ≡ share_in
KindSays _ n = ⊤

pub kind_says : (n : ℕ) → KindSays (kind_of n) n
kind_says n =
    by_test (λ (x : MethodKind). KindSays x n) (n == phone_hungup) _ _ (λ _. tt)
    (λ _. by_test (λ (x : MethodKind). KindSays x n) (n == connect_to_me) _ _ (λ e. eqb-true n connect_to_me e)
    (λ _. by_test (λ (x : MethodKind). KindSays x n) (n == connect_me_to) _ _ (λ e. eqb-true n connect_me_to e)
    (λ _. by_test (λ (x : MethodKind). KindSays x n) (n == data_write) _ _ (λ e. eqb-true n data_write e)
    (λ _. by_test (λ (x : MethodKind). KindSays x n) (n == data_read) _ _ (λ e. eqb-true n data_read e)
    (λ _. by_test (λ (x : MethodKind). KindSays x n) (n == share_out) _ _ (λ e. eqb-true n share_out e)
    (λ _. by_test (λ (x : MethodKind). KindSays x n) (n == share_in) _ _ (λ e. eqb-true n share_in e)
    (λ _. by_test (λ (x : MethodKind). KindSays x n) (nat_lt n first_user_method) _ _ (λ _. tt) (λ _. tt))))))))

pub same_code : (code : Code) → accepts code ≡ true → code ≡ eok
same_code code h = ap (λ n. let r : Code = record { 0 = n } in r) (eqb-true code.0 eok.0 h)

-- the phone that a call keeps is the one that is reserved for it

phone_of_is : (t : TaskNo) (o : Option Label) (l : Label) → phone_of t o ≡ Some l → (o ≡ Some l) × (l.task.0 ≡ t.0)
phone_of_is t None l h = absurd (cc h)
phone_of_is t (Some m) l h = by_owner (m.task.0 == t.0) refl h where
  by_owner :
      (b : Bool) → (m.task.0 == t.0) ≡ b → (if b then Some m else None) ≡ Some l
      → (Some m ≡ Some l) × (l.task.0 ≡ t.0)
  by_owner true is g =
      let same : m ≡ l = cc in (g, ap (λ (x : Label). x.task.0) (sym same) ∙ eqb-true m.task.0 t.0 is)
  by_owner false is g = absurd (cc g)

pub kept_to_me :
    (t : TaskNo) (c : Call) (l : Label) → kind_of c.request.method ≡ ConnectToMe → c.place ≡ Dispatched t
    → kept_phone c ≡ Some l → (c.reserved ≡ Some l) × (l.task.0 ≡ t.0)
kept_to_me t c l kind place is = phone_of_is t c.reserved l (
    sym (ap (λ (x : Place). kept_of (keeper_of ConnectToMe) c.from.task x c.reply.code c.reserved) place)
    ∙ sym (ap (λ (x : MethodKind). kept_of (keeper_of x) c.from.task c.place c.reply.code c.reserved) kind)
    ∙ is)

pub kept_me_to :
    (t : TaskNo) (c : Call) (l : Label) → kind_of c.request.method ≡ ConnectMeTo → c.place ≡ Dispatched t
    → kept_phone c ≡ Some l → (c.reserved ≡ Some l) × (l.task.0 ≡ c.from.task.0)
kept_me_to t c l kind place is = phone_of_is c.from.task c.reserved l (
    sym (ap (λ (x : Place). kept_of (keeper_of ConnectMeTo) c.from.task x c.reply.code c.reserved) place)
    ∙ sym (ap (λ (x : MethodKind). kept_of (keeper_of x) c.from.task c.place c.reply.code c.reserved) kind)
    ∙ is)

-- a caller that has not ended is the task of the phone that it called over
pub maker : (tasks : Tasks) (from : Label) (u : TaskNo) (o : Option TaskNo) → o ≡ Some u → IsCaller tasks from o
    → u ≡ from.task
maker tasks from u None is caller = absurd (cc is)
maker tasks from u (Some w) is caller = let same : w ≡ u = cc in sym same ∙ caller.0
