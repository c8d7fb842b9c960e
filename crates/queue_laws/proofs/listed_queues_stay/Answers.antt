use Rattle.queue_sweep.proofs.Staying.{files_stay, short_stays}
use Rattle.queue_laws.proofs.Messages.{messages_stay, finding_stays}
use Rattle.queue_laws.proofs.listed_queues_stay.Goals as goal

pub returns : goal.returns
returns c = record { files = files_stay; messages = messages_stay; short = short_stays; finding = λ topics old new finding kept s h. finding_stays topics old new s finding kept h }
