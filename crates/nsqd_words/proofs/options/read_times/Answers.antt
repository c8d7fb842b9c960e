use Rattle.clap.specs.Matches.{found_of}
use Rattle.clap.specs.Walk.{rows_of}
use Rattle.nsqd_words.proofs.RangeLemmas.{no_max_heartbeat_interval, no_max_msg_timeout, no_max_req_timeout, no_msg_timeout, no_sync_timeout}
use Rattle.nsqd_words.proofs.options.read_times.Goals as goal

pub returns-in_default : goal.returns-in_default
returns-in_default c = λ o. no_sync_timeout (rows_of (found_of c.args.matches.now)) o c.in_default.ensures

pub returns-in_default-duration : goal.returns-in_default-duration
returns-in_default-duration c = λ o. no_msg_timeout (rows_of (found_of c.args.matches.now)) o c.in_default-duration.ensures

pub returns-in_default-duration-2 : goal.returns-in_default-duration-2
returns-in_default-duration-2 c = λ o. no_max_msg_timeout (rows_of (found_of c.args.matches.now)) o c.in_default-duration-2.ensures

pub returns-in_default-duration-3 : goal.returns-in_default-duration-3
returns-in_default-duration-3 c = λ o. no_max_req_timeout (rows_of (found_of c.args.matches.now)) o c.in_default-duration-3.ensures

pub returns-in_default-duration-4 : goal.returns-in_default-duration-4
returns-in_default-duration-4 c = λ o. no_max_heartbeat_interval (rows_of (found_of c.args.matches.now)) o c.in_default-duration-4.ensures

pub returns : goal.returns
returns c = record {
  sync_timeout = c.in-Some.ensures;
  msg_timeout = c.in-Some-duration.ensures;
  max_msg_timeout = c.in-Some-duration-2.ensures;
  max_req_timeout = c.in-Some-duration-3.ensures;
  max_heartbeat_interval = c.in-Some-duration-4.ensures;
}
