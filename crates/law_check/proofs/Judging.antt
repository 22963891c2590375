-- What is kept of the laws, as entries come one by one.
use Rattle.std.proofs.Common.{◌≡◌, Bool, true, false, List, [], ◌∷◌, length, sym, subst, ◌∙◌}
use Rattle.ipc_ids.specs.declared.entry.Entry.{Entry}
use Rattle.ipc_ids.specs.Tales.{tale, tales}
use Rattle.ipc_ids.specs.Lawful.{Follows}
use Rattle.ipc_ids.specs.Laws.{IsAllowed, LivesAreLawful}
use Rattle.law_check.specs.declared.verdict.Laws.{Laws}
use Rattle.law_check.specs.Passing.{in_order, KillsStand, AreasStand}
use Rattle.law_check.specs.Verdict.{accepted}
use Rattle.law_check.specs.Judging.{Stands, MayStand, Judges}
use Rattle.law_check.proofs.Passing.{lives_next, knows_lives, calls_accepted}

pub stands_open : (p : List Entry) (s : Laws) (b : Bool) → MayStand p b s → b ≡ true → Stands p s
stands_open p s true stand h = stand
stands_open p s false stand h = cc

pub judges_open : (p : List Entry) (s : Laws) → s.lives_hold ≡ true → Stands p s → Judges p s
judges_open p s h stand = subst (λ (b : Bool). MayStand p b s) (sym h) stand

pub stands_next :
    (p : List Entry) (e : Entry) (old new : Laws) → Stands p old → Follows (tales p) (tale e) → IsAllowed (tales p) (tale e) →
    KillsStand (e ∷ p) new.kills_hold new.kills → AreasStand (e ∷ p) new.areas_hold new.areas → Stands (e ∷ p) new
stands_next p e old new stand follows allowed kills areas =
    record {
      was = (stand.was, follows, allowed);
      left = lives_next p e stand.left follows allowed;
      kills = kills;
      areas = areas;
    }

-- so many calls are known as were accepted
pub calls_are : (p : List Entry) (s : Laws) → Stands p s → length s.kills.lives.calls.items ≡ accepted (in_order p [])
calls_are p s stand = (knows_lives p s.kills_hold s.kills stand.kills).count ∙ calls_accepted p stand.was
