-- Which calls may be passed on.
use Rattle.std.proofs.Common.{◌≡◌, ◌<◌, true, false, not, ◌&&◌, inl, inr, Option, None, Some, refl, ap, sym, ◌∙◌, arith, nat_lt}
use Rattle.std.specs.Prelude.{◌==◌}
use Rattle.std.proofs.lemmas.Bool.Decides.{nat_tests}
use Rattle.std.proofs.lemmas.Bool.{eq-eqb, eqb-true, false≢true, and_parts, and_cases, not-true, not-false, both_ways}
use Rattle.ipc_ids.specs.declared.message.Msg.{Msg}
use Rattle.call_slab.specs.declared.call.Call.{Call}
use Rattle.forwarding.specs.Forwarding.{is_forwardable, has_system_method}
use Rattle.kernel_laws.specs.HeldCalls.{MayPass}

pub may_pass : (change : Option Msg) (c : Call) → is_forwardable change c ≡ true → MayPass change c
may_pass change c h =
    let both = and_parts (not (c.request.method == 0)) (not (not (nat_lt c.request.method 512) && has_system_method change)) h in
    record {
      asks = λ e. both_ways (c.request.method == 0) (not-true _ both.0) (eq-eqb c.request.method 0 e);
      user = λ msg is user.
          let stays : not (not (nat_lt c.request.method 512) && nat_lt msg.method 512) ≡ true =
          sym (ap (λ (o : Option Msg). not (not (nat_lt c.request.method 512) && has_system_method o)) is) ∙ both.1 in
          elim (and_cases (not (nat_lt c.request.method 512)) (nat_lt msg.method 512) (not-true _ stays)) [
            | inl below ↦ absurd (let low = not-false _ below in grind (arith, nat_tests, low, user))
            | inr far ↦ grind (arith, nat_tests, far)
          ];
    }

pub may_not_pass : (change : Option Msg) (c : Call) → is_forwardable change c ≡ false → MayPass change c → ⊥
may_not_pass change c h may = elim (and_cases (not (c.request.method == 0)) _ h) [
  | inl e ↦ may.asks (eqb-true c.request.method 0 (not-false _ e))
  | inr e ↦ by_change change refl (and_parts (not (nat_lt c.request.method 512)) (has_system_method change) (not-false _ e))
] where
  by_change : (o : Option Msg) → change ≡ o
      → (not (nat_lt c.request.method 512) ≡ true) × (has_system_method o ≡ true) → ⊥
  by_change None is both = false≢true both.1
  by_change (Some msg) is both =
      let user = not-true _ both.0 in
      let low : msg.method < 512 = let l = both.1 in grind (arith, nat_tests, l) in
      let high = may.user msg is (grind (arith, nat_tests, user)) in
      omega (arith, low, high)
