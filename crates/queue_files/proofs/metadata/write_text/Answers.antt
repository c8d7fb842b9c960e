use Rattle.queue_files.proofs.FileSteps.{text_parts}
use Rattle.queue_files.proofs.metadata.write_text.Goals as goal

pub returns-clause-text : goal.returns-clause-text
returns-clause-text c =
    text_parts _ _ _ _ _ _ _ _ _ _ _ _ _ _ _ _ c.clear.ensures.items c.push_number.ensures.text c.push_number-2.ensures.text c.push_number-3.ensures.text c.push_number-4.ensures.text
    c.push_number-5.ensures.text
