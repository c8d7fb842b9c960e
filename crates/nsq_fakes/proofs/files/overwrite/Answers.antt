use Rattle.nsq_fakes.proofs.Bytes.{overwritten}
use Rattle.nsq_fakes.proofs.files.overwrite.Goals as goal

pub returns : goal.returns
returns c = overwritten c.args.file.now.items c.copy_from_slice.new.self c.args.from.now c.args.at c.args.file.now.len c.args.file.now.ok.0 c.copy_from_slice.ensures.after c.requires
