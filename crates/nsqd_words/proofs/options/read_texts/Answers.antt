use Rattle.nsqd_words.proofs.options.read_texts.Goals as goal

pub returns-in-Ok : goal.returns-in-Ok
returns-in-Ok c = c.in-Ok.ensures
