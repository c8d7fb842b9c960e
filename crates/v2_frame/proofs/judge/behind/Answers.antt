use Rattle.std.proofs.Common.{◌≡◌, ℕ, ◌+◌, ◌-◌, take, drop, arith, refl, ap, sym, subst, ◌∙◌}
use Rattle.std.proofs.Common.{ℤ, rules, SFits, w64}
use Rattle.std.proofs.lemmas.Int.{to_z-of_z}
use Rattle.v2_frame.specs.declared.command.Command.{Command}
use Rattle.v2_frame.specs.declared.command.Command.TheVariants as command
use Rattle.v2_frame.specs.declared.fault.FaultKind.TheVariants.{BadSize, BadBody}
use Rattle.v2_frame.specs.declared.batch.Content.TheVariants as content
use Rattle.v2_frame.specs.Heading.{Identify, Pub, Mpub, Dpub}
use Rattle.v2_frame.specs.Command.{content_of}
use Rattle.v2_frame.specs.Judging.{Behind, Whole}
use Rattle.v2_frame.specs.Parts.{sized_heading, IsContent}
use Rattle.v2_frame.proofs.FieldLemmas.{field_open, field_bad, text_whole, text_good, text_bad, text_place, most_is}
use Rattle.v2_frame.proofs.judge.behind.Goals as goal
use Rattle.v2_frame.proofs.judge.behind.Goals.{in-Identify+in_ok-copy-in-Identify, in-Pub+in_ok-copy-in-Pub, in-Dpub+in_ok-copy-in-Dpub, in-Mpub+in_ok-bodies-in-Mpub+in-Good}

pub returns-in-Open-clause-verdict : goal.returns-in-Open-clause-verdict
returns-in-Open-clause-verdict c = field_open c.args.limits (sized_heading c.args.start) _ c.args.bytes.now c.sizing-most.ensures c.in-Open.ensures

pub returns-in-Bad-clause-verdict : goal.returns-in-Bad-clause-verdict
returns-in-Bad-clause-verdict c = field_bad c.args.limits (sized_heading c.args.start) _ c.args.bytes.now c.sizing-most.ensures c.in-Bad.ensures

pub returns-in-Bad-2-clause-verdict : goal.returns-in-Bad-2-clause-verdict
returns-in-Bad-2-clause-verdict c =
    let size = c.in-Whole.size in
    let bytes = c.args.bytes.now in
    let limits = c.args.limits in
    let is : sized_heading c.args.start ≡ Mpub c.in-Mpub.topic = ap sized_heading c.in-Mpub.is in
    text_bad limits (sized_heading c.args.start) c.sizing-most.result.0 size bytes (take (4 + size - 4) (drop 4 bytes)) c.in-Whole.ensures (ap (λ (n : ℕ). take n (drop 4 bytes)) (omega arith)) c.in-Mpub.topic c.in-Bad-2.kind c.in-Bad-2.at is
    (most_is limits (sized_heading c.args.start) (Mpub c.in-Mpub.topic) _ (record { most = limits.body; wrong = BadBody }) is refl c.sizing-most.ensures) (rw c.in-Bad-2.is at c.in_ok-bodies-in-Mpub.ensures)

pub returns-in-Bad-2-clause-taken : goal.returns-in-Bad-2-clause-taken
returns-in-Bad-2-clause-taken c =
    let size = c.in-Whole.size in
    let bytes = c.args.bytes.now in
    text_place c.args.limits (sized_heading c.args.start) c.sizing-most.result.0 size bytes (take (4 + size - 4) (drop 4 bytes)) c.in-Whole.ensures (ap (λ (n : ℕ). take n (drop 4 bytes)) (omega arith)) c.in-Bad-2.kind c.in-Bad-2.at
    (rw c.in-Bad-2.is at c.in_ok-bodies-in-Mpub.ensures)

pub returns-clause-verdict : goal.returns-clause-verdict
returns-clause-verdict c =
    let size = c.in-Whole.size in
    let bytes = c.args.bytes.now in
    let limits = c.args.limits in
    let start = c.args.start in
    let most = c.sizing-most.result.0 in
    let f = c.in-Whole.ensures in
    let cut : take (4 + size - 4) (drop 4 bytes) ≡ take size (drop 4 bytes) = ap (λ (n : ℕ). take n (drop 4 bytes)) (omega arith) in
    elim c.match-start.branch [
      | in-Identify+in_ok-copy-in-Identify w ↦
          let is : sized_heading start ≡ Identify = ap sized_heading w.in-Identify.is in
          let body = w.in_ok-copy-in-Identify.field-0 in
          let e : body ≡ take size (drop 4 bytes) = w.in_ok-copy-in-Identify.ensures ∙ cut in
          let fits : most ≡ limits.body = most_is limits (sized_heading start) Identify _ (record { most = limits.body; wrong = BadBody }) is refl c.sizing-most.ensures in
          subst (λ (x : Command). Behind limits (sized_heading start) bytes (Whole x (drop (4 + size) bytes))) (sym w.command-is)
          (text_whole limits (sized_heading start) most size bytes body f e (command.Identify body) (sym is) refl (text_good limits (sized_heading start) most size bytes body f e limits.body fits))
      | in-Pub+in_ok-copy-in-Pub w ↦
          let is : sized_heading start ≡ Pub w.in-Pub.topic = ap sized_heading w.in-Pub.is in
          let body = w.in_ok-copy-in-Pub.field-0 in
          let e : body ≡ take size (drop 4 bytes) = w.in_ok-copy-in-Pub.ensures ∙ cut in
          let fits : most ≡ limits.msg = most_is limits (sized_heading start) (Pub w.in-Pub.topic) _ (record { most = limits.msg; wrong = BadSize }) is refl c.sizing-most.ensures in
          subst (λ (x : Command). Behind limits (sized_heading start) bytes (Whole x (drop (4 + size) bytes))) (sym w.command-is)
          (text_whole limits (sized_heading start) most size bytes body f e (command.Pub w.in-Pub.topic body) (sym is) refl (text_good limits (sized_heading start) most size bytes body f e limits.msg fits))
      | in-Dpub+in_ok-copy-in-Dpub w ↦
          let is : sized_heading start ≡ Dpub w.in-Dpub.topic w.in-Dpub.delay = ap sized_heading w.in-Dpub.is in
          let body = w.in_ok-copy-in-Dpub.field-0 in
          let e : body ≡ take size (drop 4 bytes) = w.in_ok-copy-in-Dpub.ensures ∙ cut in
          let fits : most ≡ limits.msg = most_is limits (sized_heading start) (Dpub w.in-Dpub.topic w.in-Dpub.delay) _ (record { most = limits.msg; wrong = BadSize }) is refl c.sizing-most.ensures in
          let delay = w.in-Dpub.delay in
          let small : SFits w64 delay = search rules in
          let same : c.match-start.command ≡ command.Dpub w.in-Dpub.topic delay body = w.command-is ∙ ap (λ (z : ℤ). command.Dpub w.in-Dpub.topic z body) (to_z-of_z w64 delay small) in
          subst (λ (x : Command). Behind limits (sized_heading start) bytes (Whole x (drop (4 + size) bytes))) (sym same)
          (text_whole limits (sized_heading start) most size bytes body f e (command.Dpub w.in-Dpub.topic w.in-Dpub.delay body) (sym is) refl (text_good limits (sized_heading start) most size bytes body f e limits.msg fits))
      | in-Mpub+in_ok-bodies-in-Mpub+in-Good w ↦
          let is : sized_heading start ≡ Mpub w.in-Mpub.topic = ap sized_heading w.in-Mpub.is in
          let bodies = w.in-Good.bodies in
          let good : IsContent limits.msg (take (4 + size - 4) (drop 4 bytes)) (content.Good bodies) = rw w.in-Good.is at w.in_ok-bodies-in-Mpub.ensures in
          let e : content_of bodies ≡ take size (drop 4 bytes) = sym good.0 ∙ cut in
          let fits : most ≡ limits.body = most_is limits (sized_heading start) (Mpub w.in-Mpub.topic) _ (record { most = limits.body; wrong = BadBody }) is refl c.sizing-most.ensures in
          subst (λ (x : Command). Behind limits (sized_heading start) bytes (Whole x (drop (4 + size) bytes))) (sym w.command-is)
          (text_whole limits (sized_heading start) most size bytes (content_of bodies) f e (command.Mpub w.in-Mpub.topic bodies) (sym is) refl
          (good.1, good.2, text_good limits (sized_heading start) most size bytes (content_of bodies) f e limits.body fits))
    ]
