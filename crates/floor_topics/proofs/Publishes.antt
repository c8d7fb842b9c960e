-- A publish puts the messages of its bodies.
use Rattle.std.proofs.Common.{◌≡◌, ◌+◌, ◌≤◌, ◌^◌, ℕ, List, length, Result, Ok, Err, sym, ap, subst, ◌∙◌, arith}
use Rattle.std.specs.Prelude.{IfOk}
use Rattle.std.specs.List.{All}
use Rattle.nsq_outside.specs.Files.{Files}
use Rattle.v2_frame.specs.declared.message.Message.{Message}
use Rattle.backlog.specs.Seen.{FitsLimit}
use Rattle.floor_rooms.specs.declared.hall.Hall.{Hall}
use Rattle.floor_rooms.specs.Standing.{Carries, longest_delay}
use Rattle.floor_topics.specs.declared.published.Published.{Published}
use Rattle.floor_topics.specs.declared.published.Published.TheVariants.{Done, Fault}
use Rattle.floor_topics.specs.Publishing.{Publishes, PutsInto, ids_after, messages_of, put_into}
use Rattle.floor_topics.proofs.Bodies.{messages_count, messages_delay, messages_short, publish_puts}

module _ (h : Hall) (delay : ℕ) (bodies : List (List ℕ)) (ms : List Message) (is : ms ≡ messages_of h.epoch h.ids_used h.moment delay bodies) where
  pub made_count : length ms ≡ length bodies
  made_count = ap length is ∙ messages_count h.epoch h.ids_used h.moment delay bodies

  pub made_ids : h.ids_used + length bodies ≤ 2 ^ 40 → h.ids_used + length ms ≤ 2 ^ 40
  made_ids within = omega (arith, within, made_count)

  pub made_short : All (λ body. length body ≤ 16777216) bodies → All FitsLimit ms
  made_short all = subst (All FitsLimit) (sym is) (messages_short h.epoch h.ids_used h.moment delay bodies all)

  pub made_delay : delay ≤ longest_delay → All (λ m. m.delay ≤ longest_delay) ms
  made_delay within = subst (All (λ m. m.delay ≤ longest_delay)) (sym is) (messages_delay h.epoch h.ids_used h.moment delay bodies within)

  pub publish_told : {E : Type 0} (r : Result Published E) (h' : Hall) (old new : Files) (topic : List ℕ) → IfOk r (λ p. Carries h old h' new (PutsInto topic ms p)) → IfOk r (λ p. Carries h old h' new (Publishes h.moment delay topic bodies p))
  publish_told (Ok Done) h' old new topic x =
      λ s holds.
      let y = x s holds in
      (y.0, y.1 ∙ ap (put_into s topic) is ∙ publish_puts s h.epoch h.ids_used h.moment delay topic bodies holds.stands.epoch holds.stands.ids_used, y.2)
  publish_told (Ok Fault) h' old new topic x = x
  publish_told (Err e) h' old new topic x = tt

  pub publish_ids : {E : Type 0} (r : Result Published E) (used : ℕ) → IfOk r (λ p. used ≡ ids_after h.ids_used (length ms) p) → IfOk r (λ p. used ≡ ids_after h.ids_used (length bodies) p)
  publish_ids r used x = subst (λ n. IfOk r (λ p. used ≡ ids_after h.ids_used n p)) made_count x
