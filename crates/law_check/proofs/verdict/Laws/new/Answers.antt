use Rattle.law_check.proofs.Passing.{lives_first, kills_first, areas_first}
use Rattle.law_check.proofs.verdict.Laws.new.Goals as goal

pub returns-clause-judges : goal.returns-clause-judges
returns-clause-judges c =
    record {
      was = tt;
      left = lives_first;
      kills = (c.new-kills.ensures.knows, kills_first);
      areas = (c.new-areas.ensures, areas_first);
    }
