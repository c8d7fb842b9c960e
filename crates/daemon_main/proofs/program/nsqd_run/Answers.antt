use Rattle.std.proofs.Common.{◌∙◌, ap, arith, map, string_bytes, sym}
use Rattle.nsq_outside.specs.Hosts.{HostState}
use Rattle.daemon_main.proofs.Asking.{failed_wider}
use Rattle.daemon_endings.specs.Statuses.{line_of}
use Rattle.daemon_main.proofs.WordAsking.{Excludes, asked_then, asked_words, plain_words, rose_then, status_rose, status_unknown, stays_then, stays_words}
use Rattle.daemon_main.proofs.Telling.{KeepsAll, tells_keeps}
use Rattle.daemon_main.proofs.program.nsqd_run.Goals as goal

pub returns-clause-unknown : goal.returns-clause-unknown
returns-clause-unknown g c = λ is. status_unknown _ g.H.Dialer.tells g.H.Folder.Folder.tells_files g.H.Journal.Journal.tells_notes _ (g.H.Host.state c.args.host.now) (g.H.Host.state c.obey-ending.new.host) (g.H.Host.content c.args.host.now) (g.H.Host.content c.obey-ending.new.host) _ _ (map string_bytes c.args.words.now) c.obey-ending.result c.obey-ending.ensures.obeys (sym c.close.ensures.status ∙ is)

pub returns-clause-serves : goal.returns-clause-serves
returns-clause-serves g c = λ o says range.
    let excludes : Excludes (map string_bytes c.args.words.now)
    = record {
      one = c.options_are_one.ensures (map string_bytes c.args.words.now);
      known = c.options_are_known.ensures (map string_bytes c.args.words.now);
      drill_known = c.other_requests_are_known.ensures.drill (map string_bytes c.args.words.now);
      drills = c.other_requests_are_known.ensures.drills (map string_bytes c.args.words.now);
      help_known = c.other_requests_are_known.ensures.help (map string_bytes c.args.words.now);
      version_known = c.other_requests_are_known.ensures.version (map string_bytes c.args.words.now);
      options_drill = c.requests_exclude_each_other.ensures.options_drill (map string_bytes c.args.words.now);
      options_help = c.requests_exclude_each_other.ensures.options_help (map string_bytes c.args.words.now);
      options_version = c.requests_exclude_each_other.ensures.options_version (map string_bytes c.args.words.now);
      drill_help = c.requests_exclude_each_other.ensures.drill_help (map string_bytes c.args.words.now);
      drill_version = c.requests_exclude_each_other.ensures.drill_version (map string_bytes c.args.words.now);
      help_version = c.requests_exclude_each_other.ensures.help_version (map string_bytes c.args.words.now);
    } in
    plain_words g.H.Journal.Journal.notes g.H.Folder.Folder.files g.H.Clock.Clock.coming g.H.Folder.Folder.folder_faults _ g.H.Dialer.tells g.H.Folder.Folder.tells_files g.H.Journal.Journal.tells_notes (λ told. told.host) _
    (g.H.Host.state c.args.host.now) (g.H.Host.state c.obey-ending.new.host) (g.H.Host.state c.close.new.host) (g.H.Host.content c.args.host.now) (g.H.Host.content c.obey-ending.new.host) (g.H.Host.content c.close.new.host) c.close.ensures.state
    (map string_bytes c.args.words.now) o c.obey-ending.result c.close.result c.close.ensures.status excludes says range c.close.ensures.content c.obey-ending.ensures.obeys

pub returns-clause-output : goal.returns-clause-output
returns-clause-output g c = λ is.
    rose_then g.H.Dialer.tells (g.H.Host.state c.args.host.now) (g.H.Host.state c.obey-ending.new.host) (g.H.Host.state c.close.new.host) (g.H.Host.content c.args.host.now) (g.H.Host.content c.obey-ending.new.host) (g.H.Host.content c.close.new.host) c.obey-ending.result c.close.ensures.state c.close.ensures.content
    (status_rose _ g.H.Dialer.tells g.H.Folder.Folder.tells_files g.H.Journal.Journal.tells_notes _ (g.H.Host.state c.args.host.now) (g.H.Host.state c.obey-ending.new.host) (g.H.Host.content c.args.host.now) (g.H.Host.content c.obey-ending.new.host) _ _ (map string_bytes c.args.words.now) c.obey-ending.result c.obey-ending.ensures.obeys (sym c.close.ensures.status ∙ is))

pub returns-clause-prints : goal.returns-clause-prints
returns-clause-prints g c =
    let excludes : Excludes (map string_bytes c.args.words.now)
    = record {
      one = c.options_are_one.ensures (map string_bytes c.args.words.now);
      known = c.options_are_known.ensures (map string_bytes c.args.words.now);
      drill_known = c.other_requests_are_known.ensures.drill (map string_bytes c.args.words.now);
      drills = c.other_requests_are_known.ensures.drills (map string_bytes c.args.words.now);
      help_known = c.other_requests_are_known.ensures.help (map string_bytes c.args.words.now);
      version_known = c.other_requests_are_known.ensures.version (map string_bytes c.args.words.now);
      options_drill = c.requests_exclude_each_other.ensures.options_drill (map string_bytes c.args.words.now);
      options_help = c.requests_exclude_each_other.ensures.options_help (map string_bytes c.args.words.now);
      options_version = c.requests_exclude_each_other.ensures.options_version (map string_bytes c.args.words.now);
      drill_help = c.requests_exclude_each_other.ensures.drill_help (map string_bytes c.args.words.now);
      drill_version = c.requests_exclude_each_other.ensures.drill_version (map string_bytes c.args.words.now);
      help_version = c.requests_exclude_each_other.ensures.help_version (map string_bytes c.args.words.now);
    } in
    asked_then g.H.Dialer.tells (g.H.Host.state c.args.host.now) (g.H.Host.state c.obey-ending.new.host) (g.H.Host.state c.close.new.host) (g.H.Host.content c.args.host.now) (g.H.Host.content c.obey-ending.new.host) (g.H.Host.content c.close.new.host) c.obey-ending.result c.close.ensures.state c.close.ensures.content (map string_bytes c.args.words.now) _ _ c.close.ensures.status
    (asked_words _ g.H.Dialer.tells g.H.Folder.Folder.tells_files g.H.Journal.Journal.tells_notes _ (g.H.Host.state c.args.host.now) (g.H.Host.state c.obey-ending.new.host) (g.H.Host.content c.args.host.now) (g.H.Host.content c.obey-ending.new.host) _ _ (map string_bytes c.args.words.now) c.obey-ending.result excludes c.obey-ending.ensures.obeys)

pub returns-clause-stays : goal.returns-clause-stays
returns-clause-stays g c = λ none.
    let excludes : Excludes (map string_bytes c.args.words.now)
    = record {
      one = c.options_are_one.ensures (map string_bytes c.args.words.now);
      known = c.options_are_known.ensures (map string_bytes c.args.words.now);
      drill_known = c.other_requests_are_known.ensures.drill (map string_bytes c.args.words.now);
      drills = c.other_requests_are_known.ensures.drills (map string_bytes c.args.words.now);
      help_known = c.other_requests_are_known.ensures.help (map string_bytes c.args.words.now);
      version_known = c.other_requests_are_known.ensures.version (map string_bytes c.args.words.now);
      options_drill = c.requests_exclude_each_other.ensures.options_drill (map string_bytes c.args.words.now);
      options_help = c.requests_exclude_each_other.ensures.options_help (map string_bytes c.args.words.now);
      options_version = c.requests_exclude_each_other.ensures.options_version (map string_bytes c.args.words.now);
      drill_help = c.requests_exclude_each_other.ensures.drill_help (map string_bytes c.args.words.now);
      drill_version = c.requests_exclude_each_other.ensures.drill_version (map string_bytes c.args.words.now);
      help_version = c.requests_exclude_each_other.ensures.help_version (map string_bytes c.args.words.now);
    } in
    stays_then g.H.Dialer.tells (g.H.Host.state c.args.host.now) (g.H.Host.state c.obey-ending.new.host) (g.H.Host.state c.close.new.host) (g.H.Host.content c.args.host.now) (g.H.Host.content c.obey-ending.new.host) (g.H.Host.content c.close.new.host) c.obey-ending.result c.close.ensures.state c.close.ensures.content (map string_bytes c.args.words.now) c.close.result c.close.ensures.status
    (stays_words _ g.H.Dialer.tells g.H.Folder.Folder.tells_files g.H.Journal.Journal.tells_notes _ (g.H.Host.state c.args.host.now) (g.H.Host.state c.obey-ending.new.host) (g.H.Host.content c.args.host.now) (g.H.Host.content c.obey-ending.new.host) _ _ (map string_bytes c.args.words.now) c.obey-ending.result excludes none c.obey-ending.ensures.obeys)

pub returns-clause-listeners : goal.returns-clause-listeners
returns-clause-listeners g c = λ told is.
    let keeps : KeepsAll (g.H.Host.content c.obey-ending.new.host) (g.H.Host.content c.close.new.host) = (tells_keeps (line_of c.obey-ending.result) (g.H.Host.content c.obey-ending.new.host) (g.H.Host.content c.close.new.host) (g.H.Host.state c.obey-ending.new.host).tell_faults (g.H.Host.state c.close.new.host).tell_faults (c.close.ensures.content told)) in
    let same = ap (λ (x : HostState _ _ _). x.accept_faults) c.close.ensures.state.1 in
    failed_wider g.H.Host.state g.H.Host.content c.args.host.now c.args.host.now c.obey-ending.new.host c.close.new.host (omega arith) (c.obey-ending.ensures.listeners told (sym c.close.ensures.status ∙ is)) (omega (arith, same)) keeps.callers.given keeps.callers.back
