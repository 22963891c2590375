-- What a goal says, by its first word.
use Rattle.std.proofs.Common.{◌≡◌, ℕ, true, false, List, codes, refl}
use Rattle.std.specs.Str.{bytes_eq}
use Rattle.script_lines.specs.declared.plan.TaskPlan.{TaskPlan}
use Rattle.search_goals.specs.GoalText.{LosesCall, IsRest, owner_of, goal_by, goal_alone, stuck_of, when_of, goal_from}

module _ (names : List (List ℕ)) (tasks : List TaskPlan) (first : List ℕ) (others : List (List ℕ)) where
  pub says_lost : bytes_eq first (codes "lost") ≡ true → goal_alone LosesCall others ≡ goal_from names tasks first others
  says_lost lost = rw lost refl

  module _ (not_lost : bytes_eq first (codes "lost") ≡ false) where
    pub says_rest : bytes_eq first (codes "rest") ≡ true → goal_alone IsRest others ≡ goal_from names tasks first others
    says_rest rest = rw not_lost (rw rest refl)

    module _ (not_rest : bytes_eq first (codes "rest") ≡ false) where
      pub says_stuck : bytes_eq first (codes "stuck") ≡ true → stuck_of names others ≡ goal_from names tasks first others
      says_stuck stuck = rw not_lost (rw not_rest (rw stuck refl))

      module _ (not_stuck : bytes_eq first (codes "stuck") ≡ false) where
        pub says_when : bytes_eq first (codes "when") ≡ true → when_of names tasks others ≡ goal_from names tasks first others
        says_when when = rw not_lost (rw not_rest (rw not_stuck (rw when refl)))

        pub says_line : bytes_eq first (codes "when") ≡ false
            → goal_by names (owner_of first) first others ≡ goal_from names tasks first others
        says_line not_when = rw not_lost (rw not_rest (rw not_stuck (rw not_when refl)))
