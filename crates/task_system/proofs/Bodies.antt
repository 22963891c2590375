-- The bodies of a sound async task are few.
use Rattle.std.proofs.Common.{◌≡◌, ℕ, suc, ◌+◌, ◌^◌, ◌≤◌, Bool, true, false, List, [], ◌∷◌, length, refl, ◌∙◌, subst, arith}
use Rattle.std.specs.Prelude.{not}
use Rattle.std.specs.List.{fold}
use mathlib.Core.Bool.{cond}
use Rattle.ipc_ids.specs.declared.op.Body.{Body}
use Rattle.script_lines.specs.declared.plan.Kind.{Kind}
use Rattle.script_lines.specs.declared.plan.Kind.TheVariants.{Async, Block}
use Rattle.script_lines.specs.declared.plan.TaskPlan.{TaskPlan}
use Rattle.script_lines.specs.Sound.{fibrils, connections, IsAsyncTask, IsBlockTask, IsLimit, IsTaskOf, IsSoundTask}

one_of : (c : Bool) → cond (not c) 1 0 + cond c 1 0 ≡ 1
one_of true = refl
one_of false = refl

one_more : (a b c d n : ℕ) → c + d ≡ 1 → (a + c) + (b + d) + n ≡ a + b + suc n
one_more a b c d n h = omega (arith, h)

each_by : (a b : ℕ) (bodies : List Body) →
    fold (λ n (body : Body). n + cond (not body.connection) 1 0) a bodies
    + fold (λ n (body : Body). n + cond body.connection 1 0) b bodies
    ≡ a + b + length bodies
each_by a b [] = omega arith
each_by a b (body ∷ bodies) =
    each_by (a + cond (not body.connection) 1 0) (b + cond body.connection 1 0) bodies
    ∙ one_more a b (cond (not body.connection) 1 0) (cond body.connection 1 0) (length bodies) (one_of body.connection)

-- each is of a start fibril or of connections
each_is_one : (bodies : List Body) → fibrils bodies + connections bodies ≡ length bodies
each_is_one bodies = each_by 0 0 bodies ∙ none_more (length bodies) where
  none_more : (n : ℕ) → 0 + 0 + n ≡ n
  none_more n = omega arith

few_sum : (n a b : ℕ) → a + b ≡ n → a ≤ 16 → b ≤ 1 → n ≤ 65536
few_sum n a b sum few one = omega (arith, sum, few, one)

few_of : (task : TaskPlan) → IsAsyncTask task → length task.bodies ≤ 2 ^ 16
few_of task is =
    few_sum (length task.bodies) (fibrils task.bodies) (connections task.bodies) (each_is_one task.bodies) is.few_fibrils is.one_connection

few_bodies : (task : TaskPlan) → IsSoundTask task → task.kind ≡ Async → length task.bodies ≤ 2 ^ 16
few_bodies task sound is = few_of task (subst (λ (k : Kind). IsTaskOf k task) is sound.of_kind)

-- the same of bodies that are known by an equation
pub few_here : (task : TaskPlan) (bodies : List Body) → bodies ≡ task.bodies → IsSoundTask task → task.kind ≡ Async → length bodies ≤ 2 ^ 16
few_here task bodies same sound is = rw same (few_bodies task sound is)

-- the blocks of a sound block server are few
pub blocks_within : (task : TaskPlan) → IsSoundTask task → task.kind ≡ Block → IsLimit task.blocks
blocks_within task sound is = let it : IsBlockTask task = subst (λ (k : Kind). IsTaskOf k task) is sound.of_kind in it.blocks
