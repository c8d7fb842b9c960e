-- Sizes and what stands behind them, as the judge finds them.
use Rattle.std.proofs.Common.{◌≡◌, ℕ, ◌+◌, ◌^◌, ◌<◌, ◌≤◌, List, [], ◌∷◌, ◌++◌, length, take, drop, get_or, refl, sym, ap, ◌∙◌, subst, arith, append_assoc, length-append, length-take, length-drop, ⊎_elim, inl, inr, Some}
use Rattle.std.specs.Int.{from_be_bytes, w32}
use Rattle.std.specs.List.{flat_map, AllByRecursion}
use Rattle.std.proofs.lemmas.Bool.{cases_lt}
use Rattle.std.proofs.lemmas.List.{append-nil, nil_from_length, take-append-drop, drop-drop, get_or-take, get_or_past, flat_map_more}
use Rattle.std.proofs.lemmas.Nat.{be_bytes_4}
use Rattle.v2_frame.specs.Command.{size4, sized, content_of, heading_of, bytes_behind, IsSize, IsBody, IsWithin}
use Rattle.v2_frame.proofs.SizeLemmas.{size_long}
use Rattle.v2_frame.specs.declared.command.Command.{Command}
use Rattle.v2_frame.specs.declared.fault.FaultKind.{FaultKind}
use Rattle.v2_frame.specs.declared.fault.FaultKind.TheVariants.{BadSize, BadBody}
use Rattle.v2_frame.specs.declared.fault.Limits.{Limits}
use Rattle.v2_frame.specs.Heading.{Heading, Mpub}
use Rattle.v2_frame.specs.Judging.{HasSize, HasBodies, IsBadMessage, no_size, bad_size, cut_body, HasFront, IsBadContent, no_count, count_zero, bad_message, left_over, Unfinished, Faulty, Whole, Sizing, sizing_of, Behind, whole, open_size, open_body, bad_content}
use Rattle.v2_frame.specs.Judging.{bad_size as wrong_size}
use Rattle.v2_frame.specs.Parts.{IsField, IsWholeField}
use Rattle.v2_sizes.specs.declared.size.Field.TheVariants as field

AllByRecursion_push : (P : List ℕ → Type 0) (xs : List (List ℕ)) (x : List ℕ) → AllByRecursion P xs → P x → AllByRecursion P (xs ++ x ∷ [])
AllByRecursion_push P [] x all p = (p, tt)
AllByRecursion_push P (y ∷ ys) x all p = (all.0, AllByRecursion_push P ys x all.1 p)

-- an MPUB's content as far as it was read: the count, good bodies, fewer than it or as many, and the place behind them
module _ (most count at : ℕ) (content rest : List ℕ) (bodies : List (List ℕ)) (size : HasSize content count rest) (behind : rest ≡ drop 4 content)
    (good : HasBodies most (drop 4 content) bodies (drop at content)) (place : at ≡ 4 + length (flat_map sized bodies)) where
  read : HasBodies most rest bodies (drop at content)
  read = subst (λ (x : List ℕ). HasBodies most x bodies (drop at content)) (sym behind) good

  open_message : (slice : List ℕ) → IsField most slice field.Open → IsBadMessage most slice BadBody
  open_message slice (inl few) = no_size few
  open_message slice (inr cut) = cut_body cut.1 cut.2 cut.3

  pub message_open : (slice : List ℕ) → slice ≡ drop at content → length bodies < count → IsField most slice field.Open → IsBadContent most content BadBody (at + 4)
  message_open slice e less f = bad_message size read less (subst (λ (x : List ℕ). IsBadMessage most x BadBody) e (open_message slice f)) (omega arith)

  pub message_bad : (slice : List ℕ) → slice ≡ drop at content → length bodies < count → IsField most slice field.Bad → IsBadContent most content BadSize (at + 4)
  message_bad slice e less f = bad_message size read less (subst (λ (x : List ℕ). IsBadMessage most x BadSize) e (bad_size f.1 f.2)) (omega arith)

  pub bytes_left : 0 < count → length bodies ≡ count → at < length content → IsBadContent most content BadBody (at + 4)
  bytes_left some all more = left_over size some read all (omega (arith, length-drop at content)) (omega arith)

  -- all of them were read, and nothing is left
  pub content_whole : length bodies ≡ count → length content ≤ at → content ≡ content_of bodies
  content_whole all done =
      let none : drop at content ≡ [] = nil_from_length (drop at content) (omega (arith, length-drop at content)) in
      size.whole ∙ ap (λ (x : List ℕ). size4 count ++ x) (read.whole ∙ ap (λ (x : List ℕ). flat_map sized bodies ++ x) none ∙ append-nil (flat_map sized bodies)) ∙ ap (λ (n : ℕ). size4 n ++ flat_map sized bodies) (sym all)

-- one more good body
pub body_more : (most at size : ℕ) (content slice body : List ℕ) (bodies : List (List ℕ)) → HasBodies most (drop 4 content) bodies (drop at content) → slice ≡ drop at content → IsWholeField most slice size
    → body ≡ take size (drop (at + 4) content) → HasBodies most (drop 4 content) (bodies ++ body ∷ []) (drop (at + (4 + size)) content)
body_more most at size content slice body bodies h e f b =
    let s : HasSize (drop at content) size (drop 4 (drop at content)) = subst (λ (x : List ℕ). HasSize x size (drop 4 x)) e f.size_is in
    let long : length body ≡ size = ap length b ∙ simp length-take (omega (arith, f.there, ap length e, length-drop at content, length-drop (at + 4) content)) in
    let text : drop 4 (drop at content) ≡ body ++ drop (at + (4 + size)) content =
    drop-drop 4 at content ∙ sym (take-append-drop size (drop (at + 4) content)) ∙ ap (λ (x : List ℕ). x ++ drop size (drop (at + 4) content)) (sym b)
    ∙ ap (λ (x : List ℕ). body ++ x) (drop-drop size (at + 4) content ∙ ap (λ (n : ℕ). drop n content) (omega arith)) in
    let one : drop at content ≡ sized body ++ drop (at + (4 + size)) content = s.whole ∙ ap (λ (x : List ℕ). size4 size ++ x) text ∙ ap (λ (n : ℕ). size4 n ++ (body ++ drop (at + (4 + size)) content)) (sym long) in
    let fine : IsBody most body = subst (λ (n : ℕ). IsSize most n) (sym long) f.good in
    record {
      whole = h.whole ∙ ap (λ (x : List ℕ). flat_map sized bodies ++ x) one ∙ sym (append_assoc (flat_map sized bodies) (sized body) (drop (at + (4 + size)) content))
          ∙ ap (λ (x : List ℕ). x ++ drop (at + (4 + size)) content) (flat_map_more sized [] bodies body);
      each = AllByRecursion_push (IsBody most) bodies body h.each fine;
    }

pub length_more : (bodies : List (List ℕ)) (body : List ℕ) (size : ℕ) → length body ≡ size → length (flat_map sized (bodies ++ body ∷ [])) ≡ length (flat_map sized bodies) + (4 + size)
length_more bodies body size e = omega (arith, ap length (flat_map_more sized [] bodies body), length-append (flat_map sized bodies) (sized body), length-append (size4 (length body)) body)

-- a fault in a content stands within it and its size
pub place_le : {most : ℕ} {content : List ℕ} {kind : FaultKind} {at : ℕ} → IsBadContent most content kind at → at ≤ 4 + length content
place_le (no_count few) = omega arith
place_le (count_zero h) = omega arith
place_le (bad_message {bodies = bodies} {left = left} h b less bad e) = omega (arith, size_long h, ap length b.whole, length-append (flat_map sized bodies) left)
place_le (left_over {bodies = bodies} {left = left} h some b all more e) = omega (arith, size_long h, ap length b.whole, length-append (flat_map sized bodies) left)

-- what stands behind a line, by its size
pub field_open : (limits : Limits) (heading : Heading) (sizing : Sizing) (bytes : List ℕ) → sizing_of limits heading ≡ Some sizing → IsField sizing.most bytes field.Open → Behind limits heading bytes Unfinished
field_open limits heading sizing bytes s (inl few) = open_size s few
field_open limits heading sizing bytes s (inr cut) = open_body s cut.1 cut.2 cut.3

pub field_bad : (limits : Limits) (heading : Heading) (sizing : Sizing) (bytes : List ℕ) → sizing_of limits heading ≡ Some sizing → IsField sizing.most bytes field.Bad → Behind limits heading bytes (Faulty sizing.wrong 0)
field_bad limits heading sizing bytes s f = wrong_size s f.1 f.2 refl

-- a whole text of a good size behind a line
module _ (limits : Limits) (heading : Heading) (most size : ℕ) (bytes text : List ℕ) (f : IsWholeField most bytes size) (e : text ≡ take size (drop 4 bytes)) where
  pub text_long : length text ≡ size
  text_long = ap length e ∙ simp length-take (omega (arith, f.there, length-drop 4 bytes))

  front : HasFront (drop 4 bytes) size text (drop size (drop 4 bytes))
  front = record { whole = sym (take-append-drop size (drop 4 bytes)) ∙ ap (λ (x : List ℕ). x ++ drop size (drop 4 bytes)) (sym e); long = text_long }

  pub text_good : (greatest : ℕ) → most ≡ greatest → IsBody greatest text
  text_good greatest same = subst (λ (m : ℕ). IsBody m text) same (subst (λ (n : ℕ). IsSize most n) (sym text_long) f.good)

  pub text_whole : (command : Command) → heading_of command ≡ heading → bytes_behind command ≡ sized text → IsWithin limits command → Behind limits heading bytes (Whole command (drop (4 + size) bytes))
  text_whole command h b within =
      whole h (f.size_is.whole ∙ ap (λ (x : List ℕ). size4 size ++ x) front.whole ∙ ap (λ (n : ℕ). size4 n ++ (text ++ drop size (drop 4 bytes))) (sym text_long)
      ∙ ap (λ (x : List ℕ). sized text ++ x) (drop-drop size 4 bytes) ∙ ap (λ (x : List ℕ). x ++ drop (4 + size) bytes) (sym b)) within

  pub text_bad : (topic : List ℕ) (kind : FaultKind) (at : ℕ) → heading ≡ Mpub topic → most ≡ limits.body → IsBadContent limits.msg text kind at → Behind limits heading bytes (Faulty kind at)
  text_bad topic kind at m same bad = bad_content m f.size_is (subst (λ (n : ℕ). IsSize n size) same f.good) front bad

  pub text_place : (kind : FaultKind) (at : ℕ) → IsBadContent limits.msg text kind at → at ≤ length bytes
  text_place kind at bad = omega (arith, place_le bad, text_long, f.there)

-- the greatest size of a heading that is known
pub most_is : (limits : Limits) (h k : Heading) (a b : Sizing) → h ≡ k → sizing_of limits k ≡ Some b → sizing_of limits h ≡ Some a → a.most ≡ b.most
most_is limits h k a b e f g =
    let same : Some a ≡ Some b = sym g ∙ ap (sizing_of limits) e ∙ f in
    let sizing : a ≡ b = cc in ap (λ (s : Sizing). s.most) sizing
