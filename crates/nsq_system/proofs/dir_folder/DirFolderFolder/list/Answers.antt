use Rattle.nsq_system.proofs.dir_folder.DirFolderFolder.list.Goals as goal

pub returns-clause-begin : goal.returns-clause-begin
returns-clause-begin g c = c.append.ensures.begin c.names-listed.new.self.known.names c.args.beginning.now c.names-listed.ensures.part
