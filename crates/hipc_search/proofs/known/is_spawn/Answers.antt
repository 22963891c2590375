use Rattle.std.proofs.Common.{◌≡◌, codes, rules, ◌∙◌}
use Rattle.std.specs.Str.{bytes_eq}
use Rattle.hipc_search.proofs.Spawning.{spawn_is}
use Rattle.hipc_search.proofs.known.is_spawn.Goals as goal

pub returns : goal.returns
returns c =
    let same : c.eq.result ≡ bytes_eq c.args.word.now (codes "spawn") = search rules in
    same ∙ spawn_is c.args.word.now
