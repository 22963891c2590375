-- How far entries have come that are taken one by one.
use Rattle.std.specs.Prelude.{◌↔◌, Bool, true, false, List, [], ◌∷◌}
use Rattle.ipc_ids.specs.declared.entry.Entry.{Entry}
use Rattle.ipc_ids.specs.Tales.{tales}
use Rattle.ipc_ids.specs.Laws.{AllAllowed, LivesAreLawful, KillEndsHeldCalls}
use Rattle.ipc_ids.specs.AreaLaw.{AreasAreLawful}
use Rattle.law_check.specs.declared.kills.Kills.{Kills}
use Rattle.law_check.specs.declared.areas.Areas.{Areas}
use Rattle.law_check.specs.Lives.{Knows}
use Rattle.law_check.specs.Kills.{KillsFoundLate}
use Rattle.law_check.specs.KillState.{KnowsKills}
use Rattle.law_check.specs.AreaSteps.{AreasFrom}
use Rattle.law_check.specs.AreaState.{KnowsAreas}

-- the entries of a past, which has the newest first, in their order, and then these
abbrev pub in_order : List Entry → List Entry → List Entry
in_order [] es = es
in_order (e ∷ p) es = in_order p (e ∷ es)

-- what comes says whether all calls live lawfully
abbrev pub LivesLeft : List Entry → Type 0
LivesLeft p = (es : List Entry) → AllAllowed (tales p) (tales es) ↔ LivesAreLawful (in_order p es)

-- what comes says whether the law of a kill holds, where calls live lawfully
abbrev pub KillsLeft : List Entry → Type 0
KillsLeft p = (es : List Entry) → LivesAreLawful (in_order p es)
    → KillsFoundLate (tales p) (tales es) ↔ KillEndsHeldCalls (in_order p es)

-- whatever comes, the law of a kill is broken, where calls live lawfully
abbrev pub NoKillsLeft : List Entry → Type 0
NoKillsLeft p = (es : List Entry) → LivesAreLawful (in_order p es) → KillEndsHeldCalls (in_order p es) → ⊥

-- what comes says whether the law of shared areas holds, where calls live lawfully
abbrev pub AreasLeft : List Entry → Type 0
AreasLeft p = (es : List Entry) → LivesAreLawful (in_order p es)
    → AreasFrom p es ↔ AreasAreLawful (in_order p es)

-- whatever comes, the law of shared areas is broken, where calls live lawfully
abbrev pub NoAreasLeft : List Entry → Type 0
NoAreasLeft p = (es : List Entry) → LivesAreLawful (in_order p es) → AreasAreLawful (in_order p es) → ⊥

-- after a past the law of a kill may still hold, or not
abbrev pub KillsStand : List Entry → Bool → Kills → Type 0
KillsStand p true s = KnowsKills (tales p) s × KillsLeft p
KillsStand p false s = Knows (tales p) s.lives × NoKillsLeft p

-- likewise the law of shared areas
abbrev pub AreasStand : List Entry → Bool → Areas → Type 0
AreasStand p true s = KnowsAreas p s × AreasLeft p
AreasStand p false s = NoAreasLeft p
