use Rattle.std.proofs.Common.{◌≡◌, ℕ, ◌+◌, ◌-◌, List, [], unwrap_or, ap, ◌∙◌, inl, inr, arith}
use Rattle.queue_image.specs.Between.{content}
use Rattle.path_plain.specs.Folders.{files_of}
use Rattle.path_plain.proofs.Listed.{adds, first_walk}
use Rattle.queue_image.proofs.Walking.{walk_starts, skips}
use Rattle.path_plain.proofs.finding.walk.Goals as goal

pub loop-number-init : goal.loop-number-init
loop-number-init c = record {
  high = elim c.requires.order [ inl lt ↦ omega arith | inr h ↦ omega (arith, h.0) ];
  walks = first_walk c.args.least c.args.limit c.args.positions (content (files_of c.args.files.now) c.args.name.now) _ _ c.new-listing.ensures.bodies c.new-listing.ensures.bad;
}

pub loop-number-preserved : goal.loop-number-preserved
loop-number-preserved c =
    let p = c.args.positions in
    let bytes = content (files_of c.args.files.now) c.args.name.now in
    let k = c.loop-number.number in
    let next = c.in_ok-number.ensures in
    let file = c.as_str.ensures.value ∙ c.in_ok-file.ensures in
    let here : c.content_of-bytes.result.now ≡ bytes k = c.content_of-bytes.ensures ∙ ap (λ (f : List ℕ). unwrap_or (files_of c.args.files.now f) []) file in
    let low = walk_starts c.args.least c.args.limit p bytes c.loop-number.invariant.walks in
    let from = next.low in
    let most = next.high in
    let added = adds c.args.least c.args.limit p bytes k c.content_of-bytes.result.now c.loop-number.listing c.add.new.self c.in_ok-part.part here c.loop-number.invariant.walks c.in_ok-part.ensures c.in_ok-add.ensures in
    record {
      high = omega arith;
      walks = skips c.args.least c.args.limit p bytes (c.in_ok-number.number - (k + 1)) (k + 1) c.in_ok-number.number (omega arith) (omega arith) most
          (λ j a b. ap (λ o. unwrap_or o []) (next.absent j a b)) added;
    }
