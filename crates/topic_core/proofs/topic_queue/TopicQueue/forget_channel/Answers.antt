use Rattle.std.proofs.Common.{rules, ◌≡◌, ◌≢◌, [], Option, ap, ◌∙◌}
use Rattle.std.proofs.lemmas.Fn.{filter_same}
use Rattle.std.proofs.lemmas.List.{nil_from_length}
use Rattle.broker_history.specs.State.{Taken}
use Rattle.broker_history.specs.Topics.{owed_no_more, without_name}
use Rattle.v2_frame.specs.declared.message.Message.{Message}
use Rattle.topic_core.specs.Seen.{Seen, with_owed}
use Rattle.topic_core.proofs.Heads.{head_changed, struck_last, struck_one}
use Rattle.topic_core.proofs.topic_queue.TopicQueue.forget_channel.Goals as goal

pub returns-then-is_empty-clause-seen : goal.returns-then-is_empty-clause-seen
returns-then-is_empty-clause-seen c =
    let inside = c.self.inside in
    let kept : c.retain.new.self.items ≡ without_name inside.owed.items c.args.channel = filter_same _ _ _ (λ x b f' k. search rules) _ _ c.retain.ensures.filtered in
    let none : c.retain.new.self.items ≡ [] = nil_from_length c.retain.new.self.items (search rules) in
    ap (λ (h : Option Message). record { name = inside.name; paused = inside.paused; message_count = inside.message_count; backlog = inside.backlog; head = with_owed h c.retain.new.self.items }) c.let_go.ensures
    ∙ ap (λ (h : Option Taken). record { name = inside.name; paused = inside.paused; message_count = inside.message_count; backlog = inside.backlog; head = h })
    (struck_last inside.head inside.owed.items c.retain.new.self.items c.args.channel kept none)
    ∙ ap (λ (q : Seen). record q { head = owed_no_more q.head c.args.channel }) c.self.view_is

pub returns-then-is_empty-clause-row : goal.returns-then-is_empty-clause-row
returns-then-is_empty-clause-row c = λ files. head_changed c.args.self.now _ (λ h. owed_no_more h c.args.channel) c.requires (returns-then-is_empty-clause-seen c) files

pub returns-else-is_empty-clause-seen : goal.returns-else-is_empty-clause-seen
returns-else-is_empty-clause-seen c =
    let inside = c.self.inside in
    let kept : c.retain.new.self.items ≡ without_name inside.owed.items c.args.channel = filter_same _ _ _ (λ x b f' k. search rules) _ _ c.retain.ensures.filtered in
    let some : c.retain.new.self.items ≢ [] = search rules in
    ap (λ (h : Option Taken). record { name = inside.name; paused = inside.paused; message_count = inside.message_count; backlog = inside.backlog; head = h })
    (struck_one inside.head inside.owed.items c.retain.new.self.items c.args.channel kept some)
    ∙ ap (λ (q : Seen). record q { head = owed_no_more q.head c.args.channel }) c.self.view_is

pub returns-else-is_empty-clause-row : goal.returns-else-is_empty-clause-row
returns-else-is_empty-clause-row c = λ files. head_changed c.args.self.now _ (λ h. owed_no_more h c.args.channel) c.requires (returns-else-is_empty-clause-seen c) files
