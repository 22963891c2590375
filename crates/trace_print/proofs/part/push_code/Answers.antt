use Rattle.trace_print.proofs.part.push_code.Goals as goal

pub returns-in-0-clause-text : goal.returns-in-0-clause-text
returns-in-0-clause-text g c = rw (c.in-0.is) c.word.ensures.text

pub returns-in-1-clause-text : goal.returns-in-1-clause-text
returns-in-1-clause-text g c = rw (c.in-1.is) c.word-in-1.ensures.text

pub returns-in-2-clause-text : goal.returns-in-2-clause-text
returns-in-2-clause-text g c = rw (c.in-2.is) c.word-in-2.ensures.text

pub returns-in-3-clause-text : goal.returns-in-3-clause-text
returns-in-3-clause-text g c = rw (c.in-3.is) c.word-in-3.ensures.text

pub returns-in-4-clause-text : goal.returns-in-4-clause-text
returns-in-4-clause-text g c = rw (c.in-4.is) c.word-in-4.ensures.text

pub returns-in-5-clause-text : goal.returns-in-5-clause-text
returns-in-5-clause-text g c = rw (c.in-5.is) c.word-in-5.ensures.text

pub returns-in-6-clause-text : goal.returns-in-6-clause-text
returns-in-6-clause-text g c = rw (c.in-6.is) c.word-in-6.ensures.text

pub returns-in-7-clause-text : goal.returns-in-7-clause-text
returns-in-7-clause-text g c = rw (c.in-7.is) c.word-in-7.ensures.text

pub returns-in-8-clause-text : goal.returns-in-8-clause-text
returns-in-8-clause-text g c = rw (c.in-8.is) c.word-in-8.ensures.text

pub returns-in-9-clause-text : goal.returns-in-9-clause-text
returns-in-9-clause-text g c = rw (c.in-9.is) c.word-in-9.ensures.text
