use Rattle.std.proofs.Common.{ℕ, arith}
use Rattle.std.specs.Global.{Vec}
use Rattle.search_goals.specs.Goals.{text_words, listed}
use Rattle.search_goals.specs.GoalText.{words_in}
use Rattle.search_goals.proofs.GoalReading.{word_read, fault_told}
use Rattle.search_goals.proofs.goal.words_in.Goals as goal

pub loop-word-preserved : goal.loop-word-preserved
loop-word-preserved c =
    let short = c.loop-word.invariant.short in
    let less = c.in-Some.ensures.shorter in
    record {
      told =
          word_read c.args.names.now c.loop-word.number c.loop-word.words.items c.in-Some.word.now
          (text_words c.in-Some.others.now) (text_words c.loop-word.rest.now)
          (words_in c.args.names.now c.args.place (text_words c.args.text.now)) c.in-Some.ensures.some
          c.loop-word.invariant.told c.with_word.new.words.items c.in-Ok.ensures;
      short = omega (arith, short, less);
    }

pub returns-in-Err : goal.returns-in-Err
returns-in-Err c =
    fault_told c.args.names.now c.loop-word.number c.loop-word.words.items c.in-Some.word.now (text_words
    c.in-Some.others.now) (text_words c.loop-word.rest.now)
    (words_in c.args.names.now c.args.place (text_words c.args.text.now)) c.in-Some.ensures.some
    c.loop-word.invariant.told (λ (words : Vec (Vec ℕ)). listed words.items) (λ done. listed c.with_word.new.words.items)
    c.in-Err.fault c.in-Err.ensures
