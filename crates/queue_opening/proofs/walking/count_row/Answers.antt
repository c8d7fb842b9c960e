use Rattle.std.proofs.Common.{◌≡◌, ◌∙◌, List, ℕ, [], Option, unwrap_or, length, ap, arith}
use Rattle.queue_image.specs.FileNames.{data_file}
use Rattle.queue_image.specs.Between.{content}
use Rattle.queue_opening.proofs.Sizes.{row_on, row_ends}
use Rattle.queue_opening.proofs.walking.count_row.Goals as goal

pub loop-place-preserved : goal.loop-place-preserved
loop-place-preserved g c =
    let i = c.loop-place.invariant in
    let bytes = content (g.F.Folder.files c.args.folder.now) c.args.files.now c.args.number in
    let now = content (g.F.Folder.files c.loop-place.folder) c.loop-place.files c.args.number in
    record {
      name = c.in-Record.ensures.name ∙ i.name;
      low = omega (arith, i.low, c.in-Record.ensures.within.0);
      high = c.in-Record.ensures.within.1;
      few = omega (arith, i.few, c.in-Record.ensures.within.0);
      same = λ told file. c.in-Record.ensures.same told file ∙ i.same told file;
      row = λ told inside.
          let here : now ≡ bytes
          = ap (λ (name : List ℕ). content (g.F.Folder.files c.loop-place.folder) name c.args.number) i.name
          ∙ ap (λ (o : Option (List ℕ)). unwrap_or o []) (i.same told (data_file c.args.files.now c.args.number)) in
          row_on c.args.options.now.least c.args.options.now.limit c.args.start c.loop-place.place c.in-Record.next c.loop-place.count bytes now here i.low (omega (arith, i.high, inside)) (i.row told inside)
          (c.in-Record.ensures.stand told (omega (arith, ap length here, inside)));
      exact = λ counts. c.in-Record.ensures.exact counts ∙ i.exact counts;
      faults = omega (arith, i.faults, c.in-Record.ensures.faults);
    }

pub returns-in-Damage-clause-row : goal.returns-in-Damage-clause-row
returns-in-Damage-clause-row g c = λ told inside.
    let i = c.loop-place.invariant in
    let bytes = content (g.F.Folder.files c.args.folder.now) c.args.files.now c.args.number in
    let now = content (g.F.Folder.files c.loop-place.folder) c.loop-place.files c.args.number in
    let here : now ≡ bytes
    = ap (λ (name : List ℕ). content (g.F.Folder.files c.loop-place.folder) name c.args.number) i.name
    ∙ ap (λ (o : Option (List ℕ)). unwrap_or o []) (i.same told (data_file c.args.files.now c.args.number)) in
    row_ends c.args.options.now.least c.args.options.now.limit c.args.start c.loop-place.place c.args.end c.loop-place.count bytes now here i.low i.high inside (i.row told inside)
    (c.in-Damage.ensures.stand told (omega (arith, ap length here, inside)))
