-- What stands behind a line is judged in one way.
use Rattle.std.proofs.Common.{◌≡◌, ℕ, ◌^◌, ◌<◌, ◌≤◌, List, [], ◌++◌, Some, length, refl, sym, ap, ◌∙◌, subst, arith, length-append}
use Rattle.std.specs.List.{flat_map, AllByRecursion}
use Rattle.std.proofs.lemmas.List.{append-nil}
use Rattle.v2_frame.specs.declared.command.Command.{Command}
use Rattle.v2_frame.specs.declared.command.Command.TheVariants as command
use Rattle.v2_frame.specs.declared.fault.FaultKind.{FaultKind}
use Rattle.v2_frame.specs.declared.fault.Limits.{Limits}
use Rattle.v2_frame.specs.Heading.{Heading, Mpub}
use Rattle.v2_frame.specs.Command.{size4, sized, content_of, heading_of, bytes_behind, IsSize, IsBody, IsWithin}
use Rattle.v2_frame.specs.Judging.{Verdict, Faulty, Sizing, sizing_of, HasSize, HasFront, HasBodies, IsBadContent, Behind, whole, open_size, bad_size, open_body, bad_content}
use Rattle.v2_frame.proofs.LineLemmas.{append_split}
use Rattle.v2_frame.proofs.SizeLemmas.{size_unique, size_long, sized_split, content_unique, good_content, bodies_same, count_le}

-- the text behind the line of a command with a sizing
record SizedCommand (sizing : Sizing) (c : Command) : Type 0 where
  text : List ℕ
  is : bytes_behind c ≡ sized text
  good : IsBody sizing.most text

sized_command : (limits : Limits) (sizing : Sizing) (c : Command) → sizing_of limits (heading_of c) ≡ Some sizing → IsWithin limits c → SizedCommand sizing c
sized_command limits sizing (command.Identify body) e within = record { text = body; is = refl; good = subst (λ (m : ℕ). IsBody m body) (cc) within }
sized_command limits sizing (command.Pub topic body) e within = record { text = body; is = refl; good = subst (λ (m : ℕ). IsBody m body) (cc) within }
sized_command limits sizing (command.Mpub topic bodies) e within = record { text = content_of bodies; is = refl; good = subst (λ (m : ℕ). IsBody m (content_of bodies)) (cc) within.2 }
sized_command limits sizing (command.Dpub topic delay body) e within = record { text = body; is = refl; good = subst (λ (m : ℕ). IsBody m body) (cc) within }
sized_command limits sizing _ e within = cc

-- so the command's bytes begin with its size
command_size : (sizing : Sizing) (c : Command) (bytes rest : List ℕ) (s : SizedCommand sizing c) → bytes ≡ bytes_behind c ++ rest → HasSize bytes (length s.text) (s.text ++ rest)
command_size sizing c bytes rest s e = record { whole = e ∙ ap (λ (x : List ℕ). x ++ rest) s.is; fits = s.good.fits }

-- the count of an MPUB, and its bodies
count_of : (most : ℕ) (bodies : List (List ℕ)) → length (content_of bodies) < 2 ^ 32 → HasSize (content_of bodies) (length bodies) (flat_map sized bodies)
count_of most bodies fits = record { whole = refl; fits = omega (arith, count_le bodies, length-append (size4 (length bodies)) (flat_map sized bodies)) }

all_of : (most : ℕ) (bodies : List (List ℕ)) → AllByRecursion (IsBody most) bodies → HasBodies most (flat_map sized bodies) bodies []
all_of most bodies good = record { whole = sym (append-nil (flat_map sized bodies)); each = good }

content_split : (most : ℕ) (bs cs : List (List ℕ)) → AllByRecursion (IsBody most) bs → AllByRecursion (IsBody most) cs → length (content_of bs) < 2 ^ 32 → content_of bs ≡ content_of cs → bs ≡ cs
content_split most bs cs good other fits e =
    let size = count_of most bs fits in
    let again : HasSize (content_of bs) (length cs) (flat_map sized cs) = record { whole = e; fits = (count_of most cs (subst (λ (n : ℕ). n < 2 ^ 32) (ap length e) fits)).fits } in
    let same = size_unique size again in
    (bodies_same (all_of most bs good) (subst (λ (x : List ℕ). HasBodies most x cs []) (sym same.1) (all_of most cs other)) same.0).0

-- a heading and what stands behind it spell one command
behind_split : (limits : Limits) (c d : Command) (x y : List ℕ) → heading_of c ≡ heading_of d → bytes_behind c ++ x ≡ bytes_behind d ++ y → IsWithin limits c → IsWithin limits d → (c ≡ d) × (x ≡ y)
behind_split limits (command.Identify a) (command.Identify b) x y h e good other =
    let parts = sized_split a b x y good.fits other.fits e in (ap command.Identify parts.0, parts.1)
behind_split limits (command.Identify a) d x y h e good other = cc
behind_split limits (command.Sub a b) (command.Sub c d) x y h e good other = (cc, e)
behind_split limits (command.Sub a b) d x y h e good other = cc
behind_split limits (command.Pub t a) (command.Pub u b) x y h e good other =
    let parts = sized_split a b x y good.fits other.fits e in (cc, parts.1)
behind_split limits (command.Pub t a) d x y h e good other = cc
behind_split limits (command.Mpub t cs) (command.Mpub u bs) x y h e good other =
    let parts = sized_split (content_of cs) (content_of bs) x y good.2.fits other.2.fits e in
    let same : cs ≡ bs = content_split limits.msg cs bs good.1 other.1 good.2.fits parts.0 in (cc, parts.1)
behind_split limits (command.Mpub t cs) d x y h e good other = cc
behind_split limits (command.Dpub t m a) (command.Dpub u n b) x y h e good other =
    let parts = sized_split a b x y good.fits other.fits e in (cc, parts.1)
behind_split limits (command.Dpub t m a) d x y h e good other = cc
behind_split limits (command.Rdy m) (command.Rdy n) x y h e good other = (cc, e)
behind_split limits (command.Rdy m) d x y h e good other = cc
behind_split limits (command.Fin a) (command.Fin b) x y h e good other = (cc, e)
behind_split limits (command.Fin a) d x y h e good other = cc
behind_split limits (command.Req a m) (command.Req b n) x y h e good other = (cc, e)
behind_split limits (command.Req a m) d x y h e good other = cc
behind_split limits (command.Touch a) (command.Touch b) x y h e good other = (cc, e)
behind_split limits (command.Touch a) d x y h e good other = cc
behind_split limits command.Cls command.Cls x y h e good other = (refl, e)
behind_split limits command.Cls d x y h e good other = cc
behind_split limits command.Nop command.Nop x y h e good other = (refl, e)
behind_split limits command.Nop d x y h e good other = cc

-- a command of an MPUB's heading is an MPUB
record MpubCommand (limits : Limits) (c : Command) : Type 0 where
  bodies : List (List ℕ)
  is : bytes_behind c ≡ sized (content_of bodies)
  some : 0 < length bodies
  each : AllByRecursion (IsBody limits.msg) bodies
  good : IsBody limits.body (content_of bodies)

mpub_command : (limits : Limits) (topic : List ℕ) (c : Command) → heading_of c ≡ Mpub topic → IsWithin limits c → MpubCommand limits c
mpub_command limits topic (command.Mpub t bodies) h within = record { bodies = bodies; is = refl; some = within.0; each = within.1; good = within.2 }
mpub_command limits topic _ h within = cc

-- a whole MPUB has no fault in its content
whole_content : (limits : Limits) (topic : List ℕ) (c : Command) (bytes rest after content left : List ℕ) (size : ℕ) (kind : FaultKind) (at : ℕ) → heading_of c ≡ Mpub topic → IsWithin limits c
    → bytes ≡ bytes_behind c ++ rest → HasSize bytes size after → HasFront after size content left → IsBadContent limits.msg content kind at → ⊥
whole_content limits topic c bytes rest after content left size kind at h within e s f bad =
    let m = mpub_command limits topic c h within in
    let there : HasSize bytes (length (content_of m.bodies)) (content_of m.bodies ++ rest) = record { whole = e ∙ ap (λ (x : List ℕ). x ++ rest) m.is; fits = m.good.fits } in
    let same = size_unique s there in
    let parts = append_split content (content_of m.bodies) left rest (f.long ∙ same.0) (sym f.whole ∙ same.1) in
    good_content limits.msg m.bodies m.some m.each m.good.fits (subst (λ (x : List ℕ). IsBadContent limits.msg x kind at) parts.0 bad)

-- a heading has one sizing
sizing_unique : (limits : Limits) (heading : Heading) (a b : Sizing) → sizing_of limits heading ≡ Some a → sizing_of limits heading ≡ Some b → a ≡ b
sizing_unique limits heading a b e f = cc

-- the size that stands where a whole command of this sizing does
record IsThere (sizing : Sizing) (bytes rest : List ℕ) : Type 0 where
  text : List ℕ
  size : HasSize bytes (length text) (text ++ rest)
  good : IsBody sizing.most text

is_there : (limits : Limits) {heading : Heading} {sizing : Sizing} {bytes rest : List ℕ} (c : Command) → heading_of c ≡ heading → bytes ≡ bytes_behind c ++ rest → IsWithin limits c → sizing_of limits heading ≡ Some sizing → IsThere sizing bytes rest
is_there limits {sizing = sizing} {bytes = bytes} {rest = rest} c h e within s =
    let found = sized_command limits sizing c (ap (sizing_of limits) h ∙ s) within in
    record { text = found.text; size = command_size sizing c bytes rest found e; good = found.good }

mpub_sizing : (limits : Limits) (heading : Heading) (topic : List ℕ) (sizing : Sizing) → heading ≡ Mpub topic → sizing_of limits heading ≡ Some sizing → sizing.most ≡ limits.body
mpub_sizing limits heading topic sizing h s = let e : sizing_of limits (Mpub topic) ≡ Some sizing = ap (sizing_of limits) (sym h) ∙ s in cc

-- a bad content has a good size and is whole
content_not : (limits : Limits) (heading : Heading) (topic after content left : List ℕ) (sizing : Sizing) (size : ℕ) → heading ≡ Mpub topic → IsSize limits.body size → HasFront after size content left → sizing_of limits heading ≡ Some sizing
    → IsSize sizing.most size × (size ≤ length after)
content_not limits heading topic after content left sizing size m good f s =
    (subst (λ (n : ℕ). IsSize n size) (sym (mpub_sizing limits heading topic sizing m s)) good, omega (arith, ap length f.whole, length-append content left, f.long))

-- one content stands behind one size
content_same : {bytes after other content same left more : List ℕ} {size long : ℕ} → HasSize bytes size after → HasSize bytes long other → HasFront after size content left → HasFront other long same more → content ≡ same
content_same {after = after} {other = other} {content = content} {same = same} {left = left} {more = more} k l f g =
    (append_split content same left more (f.long ∙ (size_unique k l).0 ∙ sym g.long) (sym f.whole ∙ (size_unique k l).1 ∙ g.whole)).0

content_at : (most : ℕ) (content same : List ℕ) (kind wrong : FaultKind) (at place : ℕ) → content ≡ same → IsBadContent most content kind at → IsBadContent most same wrong place → Faulty kind at ≡ Faulty wrong place
content_at most content same kind wrong at place e bad worse =
    let found : (kind ≡ wrong) × (at ≡ place) = content_unique bad (subst (λ (x : List ℕ). IsBadContent most x wrong place) (sym e) worse) in cc

-- what stands behind a heading is judged in one way
pub behind_unique : (limits : Limits) {heading : Heading} {bytes : List ℕ} {v w : Verdict} → Behind limits heading bytes v → Behind limits heading bytes w → v ≡ w
behind_unique limits (whole {command = c} {rest = x} h e within) (whole {command = d} {rest = y} k g other) = let parts = behind_split limits c d x y (h ∙ sym k) (sym e ∙ g) within other in cc
behind_unique limits (whole {command = c} {rest = x} h e within) (open_size s few) = let t = is_there limits c h e within s in absurd (omega (arith, size_long t.size))
behind_unique limits (whole {command = c} {rest = x} h e within) (bad_size s k worse q) = let t = is_there limits c h e within s in absurd (omega (arith, t.good, (size_unique t.size k).0))
behind_unique limits (whole {command = c} {rest = x} h e within) (open_body s k fine cut) = let t = is_there limits c h e within s in absurd (omega (arith, (size_unique t.size k).0, ap length (size_unique t.size k).1, length-append t.text x))
behind_unique limits {heading = heading} {bytes = bytes} (whole {command = c} {rest = x} h e within) (bad_content {topic = topic} {rest = after} {content = content} {left = left} {size = size} {kind = kind} {at = at} m k good f bad) = absurd (whole_content limits topic c bytes x after content left size kind at (h ∙ m) within e k f bad)
behind_unique limits (open_size s few) (whole {command = c} {rest = x} h e within) = let t = is_there limits c h e within s in absurd (omega (arith, size_long t.size))
behind_unique limits (open_size s few) (open_size r less) = refl
behind_unique limits (open_size s few) (bad_size r k worse q) = absurd (omega (arith, size_long k))
behind_unique limits (open_size s few) (open_body r k fine cut) = refl
behind_unique limits (open_size s few) (bad_content m k good f bad) = absurd (omega (arith, size_long k))
behind_unique limits (bad_size s k worse q) (whole {command = c} {rest = x} h e within) = let t = is_there limits c h e within s in absurd (omega (arith, t.good, (size_unique t.size k).0))
behind_unique limits (bad_size s k worse q) (open_size r few) = absurd (omega (arith, size_long k))
behind_unique limits {heading = heading} (bad_size {sizing = a} s k worse q) (bad_size {sizing = b} r l bad p) = let same : a ≡ b = sizing_unique limits heading a b s r in cc
behind_unique limits {heading = heading} (bad_size {sizing = a} s k worse q) (open_body {sizing = b} r l fine cut) = absurd (omega (arith, fine, (size_unique k l).0, ap (λ (z : Sizing). z.most) (sizing_unique limits heading a b s r)))
behind_unique limits {heading = heading} (bad_size {sizing = a} s k worse q) (bad_content {topic = topic} {rest = after} {content = content} {left = left} {size = size} m l good f bad) = absurd (omega (arith, (content_not limits heading topic after content left a size m good f s).0, (size_unique k l).0))
behind_unique limits (open_body s k fine cut) (whole {command = c} {rest = x} h e within) = let t = is_there limits c h e within s in absurd (omega (arith, (size_unique t.size k).0, ap length (size_unique t.size k).1, length-append t.text x))
behind_unique limits (open_body s k fine cut) (open_size r few) = refl
behind_unique limits {heading = heading} (open_body {sizing = b} r l fine cut) (bad_size {sizing = a} s k worse q) = absurd (omega (arith, fine, (size_unique k l).0, ap (λ (z : Sizing). z.most) (sizing_unique limits heading a b s r)))
behind_unique limits (open_body s k fine cut) (open_body r l good later) = refl
behind_unique limits {heading = heading} (open_body {sizing = a} s k fine cut) (bad_content {topic = topic} {rest = after} {content = content} {left = left} {size = size} m l good f bad) = absurd (omega (arith, (content_not limits heading topic after content left a size m good f s).1, (size_unique k l).0, ap length (size_unique k l).1))
behind_unique limits {heading = heading} {bytes = bytes} (bad_content {topic = topic} {rest = after} {content = content} {left = left} {size = size} {kind = kind} {at = at} m k good f bad) (whole {command = c} {rest = x} h e within) = absurd (whole_content limits topic c bytes x after content left size kind at (h ∙ m) within e k f bad)
behind_unique limits (bad_content m k good f bad) (open_size s few) = absurd (omega (arith, size_long k))
behind_unique limits {heading = heading} (bad_content {topic = topic} {rest = after} {content = content} {left = left} {size = size} m l good f bad) (bad_size {sizing = a} s k worse q) = absurd (omega (arith, (content_not limits heading topic after content left a size m good f s).0, (size_unique k l).0))
behind_unique limits {heading = heading} (bad_content {topic = topic} {rest = after} {content = content} {left = left} {size = size} m l good f bad) (open_body {sizing = a} s k fine cut) = absurd (omega (arith, (content_not limits heading topic after content left a size m good f s).1, (size_unique k l).0, ap length (size_unique k l).1))
behind_unique limits (bad_content {rest = after} {content = content} {left = left} {size = size} {kind = kind} {at = at} m k good f bad) (bad_content {rest = other} {content = same} {left = more} {size = long} {kind = wrong} {at = place} n l fine g worse) = content_at limits.msg content same kind wrong at place (content_same k l f g) bad worse
