-- The kinds of methods, and the methods that they have.
use Rattle.std.proofs.Common.{◌≡◌, ℕ, ◌≤◌, subst, arith}
use Rattle.std.proofs.lemmas.Bool.Decides.{nat_tests}
use Rattle.ipc_ids.specs.declared.methods.MethodKind.{MethodKind}
use Rattle.ipc_ids.specs.declared.methods.MethodKind.TheVariants.{User}
use Rattle.ipc_ids.specs.Methods.{kind_of}
use Rattle.kernel_core.proofs.KindsOfCalls.{KindSays, kind_says}

-- a method of a kind is the one of that kind
pub method_of : (kind : MethodKind) (m : ℕ) → kind_of m ≡ kind → KindSays kind m
method_of kind m is = subst (λ (x : MethodKind). KindSays x m) is (kind_says m)

-- each user's method is of one kind
pub user_kind : (m : ℕ) → 512 ≤ m → kind_of m ≡ User
user_kind m far = grind (arith, nat_tests, far)
