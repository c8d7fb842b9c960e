use Rattle.std.proofs.Common.{◌≡◌, ◌≢◌, ℕ, ◌-◌, ◌+◌, List, length, take, drop, refl, ap, ◌∙◌, subst, arith, length-drop, inl, inr}
use Rattle.v2_frame.specs.Script.{magic}
use Rattle.v2_frame.specs.declared.got.Stage.TheVariants.{Commands}
use Rattle.v2_frame.proofs.PlaceLemmas.{behind_place}
use Rattle.v2_frame.proofs.ReaderLemmas.{left_magic, reads_magic, remembers_none}
use Rattle.v2_frame.proofs.VerbLemmas.{are_same, not_same}
use Rattle.v2_frame.proofs.reader.Reader.read_magic.Goals as goal

pub fail-requires : goal.fail-requires
fail-requires c =
    let i = c.self.inside in
    let slice = behind_place c.deref.result.now i.start ∙ ap (drop i.start) c.deref.ensures.value in
    let pending = take (length c.deref.result.now - i.start) (drop i.start c.deref.result.now) in
    let other : take 4 (drop i.start i.bytes.items) ≢ magic = subst (λ (x : List ℕ). take 4 x ≢ magic) slice (not_same (take 4 pending) magic c.same.ensures c.if-same.false) in
    rw (← c.self.view_is) (left_magic i.stage i.limits i.place (drop i.start i.bytes.items) (rw (← c.self.view_is) at c.requires) (omega (arith, ap length slice, c.if-pending.false)) other)

pub invariant_of-self : goal.invariant_of-self
invariant_of-self c =
    let i = c.self.inside in
    let slice = behind_place c.deref.result.now i.start ∙ ap (drop i.start) c.deref.ensures.value in
    remembers_none i.limits i.bytes.items (i.start + 4) (omega (arith, ap length slice, length-drop i.start i.bytes.items, c.if-pending.false, c.self.invariant.done))

pub returns-then-same : goal.returns-then-same
returns-then-same c =
    let i = c.self.inside in
    let bytes = c.deref.result.now in
    let slice = behind_place bytes i.start ∙ ap (drop i.start) c.deref.ensures.value in
    let pending = take (length bytes - i.start) (drop i.start bytes) in
    let right : take 4 pending ≡ magic = are_same (take 4 pending) magic c.same.ensures c.if-same.true in
    rw (← c.self.view_is) (record {
      begun = record { limits = i.limits; stage = Commands; place = 4; pending = drop (i.start + 4) i.bytes.items };
      starts = inr (reads_magic i.limits i.stage i.place i.start pending i.bytes.items (rw (← c.self.view_is) at c.requires) slice right);
      next = c.command.ensures;
    })

pub returns : goal.returns
returns c = record { begun = c.args.self.now; starts = inl refl; next = c.fail.ensures }
