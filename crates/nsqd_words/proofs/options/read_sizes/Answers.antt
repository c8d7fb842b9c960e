use Rattle.clap.specs.Matches.{found_of}
use Rattle.clap.specs.Walk.{rows_of}
use Rattle.nsqd_words.proofs.RangeLemmas.{no_max_body_size, no_max_bytes_per_file, no_max_msg_size, no_max_rdy_count, no_mem_queue_size, no_sync_every}
use Rattle.nsqd_words.proofs.options.read_sizes.Goals as goal

pub returns-in_default : goal.returns-in_default
returns-in_default c = λ o. no_mem_queue_size (rows_of (found_of c.args.matches.now)) o c.in_default.ensures

pub returns-in_default-number : goal.returns-in_default-number
returns-in_default-number c = λ o. no_max_bytes_per_file (rows_of (found_of c.args.matches.now)) o c.in_default-number.ensures

pub returns-in_default-number-2 : goal.returns-in_default-number-2
returns-in_default-number-2 c = λ o. no_sync_every (rows_of (found_of c.args.matches.now)) o c.in_default-number-2.ensures

pub returns-in_default-small_number : goal.returns-in_default-small_number
returns-in_default-small_number c = λ o. no_max_msg_size (rows_of (found_of c.args.matches.now)) o c.in_default-small_number.ensures

pub returns-in_default-small_number-2 : goal.returns-in_default-small_number-2
returns-in_default-small_number-2 c = λ o. no_max_body_size (rows_of (found_of c.args.matches.now)) o c.in_default-small_number-2.ensures

pub returns-in_default-small_number-3 : goal.returns-in_default-small_number-3
returns-in_default-small_number-3 c = λ o. no_max_rdy_count (rows_of (found_of c.args.matches.now)) o c.in_default-small_number-3.ensures

pub returns : goal.returns
returns c = record {
  mem_queue_size = c.in-Some.ensures;
  max_bytes_per_file = c.in-Some-number.ensures;
  sync_every = c.in-Some-number-2.ensures;
  max_msg_size = c.in-Some-small_number.ensures;
  max_body_size = c.in-Some-small_number-2.ensures;
  max_rdy_count = c.in-Some-small_number-3.ensures;
}
