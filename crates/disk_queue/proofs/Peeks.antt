-- What stands where reading stands.
use Rattle.std.proofs.Common.{◌≡◌, ◌≢◌, ℕ, ◌+◌, ◌-◌, ◌^◌, ◌<◌, ◌≤◌, List, [], ◌++◌, length, take, drop, Option, unwrap_or, refl, sym, ◌∙◌, ap, subst, inl, inr, arith, append_assoc, length-append, length-take, length-drop, take-append-drop}
use Rattle.std.specs.Int.{w32, to_be_bytes, from_be_bytes}
use Rattle.std.proofs.Math.Seq.{take-append-add}
use Rattle.std.proofs.lemmas.List.{take_at, take-take, drop-drop, drop_all, append-nil}
use Rattle.std.proofs.lemmas.Nat.{from_be_bytes-to_be_bytes_4}
use Rattle.std.proofs.lemmas.Bool.{cases_lt}
use Rattle.std.proofs.lemmas.Bool.Decides.{eqb_tells}
use Rattle.nsq_outside.specs.Files.{Files, SameFiles, ReadsAt}
use Rattle.nsq_outside.specs.declared.folder.ReadAt.TheVariants.{Got}
use Rattle.queue_image.specs.FileNames.{data_file}
use Rattle.queue_image.specs.Between.{content}
use Rattle.queue_image.specs.Records.{HasRecord, record_bytes, IsSize, size_read}
use Rattle.queue_image.specs.Places.{IsOrdered, IsAtEnd, part_end}
use Rattle.queue_image.specs.declared.positions.Positions.{Positions}
use Rattle.queue_image.proofs.RowLemmas.{length-record}
use Rattle.queue_image.proofs.Walking.{if_same, if_apart}
use Rattle.disk_queue.specs.Seen.{Seen, behind}
use Rattle.disk_queue.specs.Reading.{IsReadOut, left_of, IsDamage}
use Rattle.disk_queue.specs.Reading.IsUnreadable.{short, wrong, passing}
use Rattle.disk_queue.specs.Peeking.{BeginsWithSize, HeadIs, FileFinds, IsShort}
use Rattle.disk_queue.specs.declared.queue.reading.Head.{Head}
use Rattle.disk_queue.specs.declared.queue.reading.Head.TheVariants.{Size, Short, Fault}

-- below the write file all is left that stands in the file
end_earlier : (p : Positions) (len : ℕ) → p.read_file < p.write_file → part_end p p.read_file len ≡ len
end_earlier p len lt = if_apart p.read_file p.write_file p.write_at len (λ e. omega (arith, e))

-- in the write file what stands before the write position
end_last : (p : Positions) (len : ℕ) → p.read_file ≡ p.write_file → part_end p p.read_file len ≡ p.write_at
end_last p len e = if_same p.read_file p.write_file p.write_at len e

-- no more is left than stands in the file
pub left_most : (p : Positions) (bytes : List ℕ) → length (left_of p bytes) ≤ length bytes - p.read_at
left_most p bytes = omega (arith, length-take (part_end p p.read_file (length bytes) - p.read_at) (drop p.read_at bytes), length-drop p.read_at bytes)

-- nor than stands before the write position in the write file
pub left_before : (p : Positions) (bytes : List ℕ) → p.read_file ≡ p.write_file → length (left_of p bytes) ≤ p.write_at - p.read_at
left_before p bytes e =
    omega (arith, end_last p (length bytes) e, length-take (part_end p p.read_file (length bytes) - p.read_at) (drop p.read_at bytes))

-- where something is left the file is not read out
pub left_not_out : (bytes : ℕ → List ℕ) (p : Positions) → 0 < length (left_of p (bytes p.read_file)) → ¬ IsReadOut bytes p
left_not_out bytes p some out = let end = out.out in omega (arith, end, some, left_most p (bytes p.read_file))

-- nor is it the end of the list
pub left_not_end : (bytes : ℕ → List ℕ) (p : Positions) → 0 < length (left_of p (bytes p.read_file)) → ¬ IsAtEnd p
left_not_end bytes p some end = omega (arith, end.1, some, left_before p (bytes p.read_file) end.0)

-- what the size in front is
pub size_in_front : (bytes : List ℕ) (size : ℕ) → BeginsWithSize bytes size → size ≡ size_read bytes
size_in_front bytes size b = sym (ap (from_be_bytes w32) b.is ∙ read_back size b.small)
  where
    read_back : (size : ℕ) → size < 2 ^ 32 → from_be_bytes w32 (to_be_bytes w32 size) ≡ size
    read_back size small = from_be_bytes-to_be_bytes_4 size small

-- the size is that of the bytes that are left
begins_left : (p : Positions) (bytes : List ℕ) (size : ℕ) → p.read_at + 4 ≤ part_end p p.read_file (length bytes) → BeginsWithSize (drop p.read_at bytes) size → BeginsWithSize (left_of p bytes) size
begins_left p bytes size room b =
    let m = part_end p p.read_file (length bytes) - p.read_at in
    let enough = b.enough in
    record {
      enough = omega (arith, length-take m (drop p.read_at bytes), enough, room);
      is = take-take 4 m (drop p.read_at bytes) (omega (arith, room)) ∙ b.is;
      small = b.small;
    }

-- a file below the write file
pub finds_size : (bytes : ℕ → List ℕ) (p : Positions) (size : ℕ) → p.read_file < p.write_file → BeginsWithSize (drop p.read_at (bytes p.read_file)) size → BeginsWithSize (left_of p (bytes p.read_file)) size
finds_size bytes p size lt b =
    let enough = b.enough in
    begins_left p (bytes p.read_file) size (omega (arith, end_earlier p (length (bytes p.read_file)) lt, length-drop p.read_at (bytes p.read_file), enough)) b

pub finds_short : (bytes : ℕ → List ℕ) (p : Positions) → p.read_file < p.write_file → length (drop p.read_at (bytes p.read_file)) < 4 → length (bytes p.read_file) ≢ p.read_at → IsShort bytes p
finds_short bytes p lt few apart = record {
  not_out = λ out. apart (sym out.out);
  not_end = λ end. omega (arith, end.0, lt);
  few = omega (arith, left_most p (bytes p.read_file), length-drop p.read_at (bytes p.read_file), few);
}

-- the write file
pub finds_last : (bytes : ℕ → List ℕ) (p : Positions) (head : Head) → p.read_file ≡ p.write_file → p.read_at + 4 ≤ p.write_at → HeadIs (drop p.read_at (bytes p.read_file)) head → FileFinds bytes p head
finds_last bytes p (Size size) same room b = begins_left p (bytes p.read_file) size (omega (arith, end_last p (length (bytes p.read_file)) same, room)) b
finds_last bytes p Short same room few = record {
  not_out = λ out. let lt = out.earlier in omega (arith, lt, same);
  not_end = λ end. omega (arith, end.1, room);
  few = omega (arith, left_most p (bytes p.read_file), length-drop p.read_at (bytes p.read_file), few);
}
finds_last bytes p Fault same room found = tt

pub finds_few : (bytes : ℕ → List ℕ) (p : Positions) → p.read_file ≡ p.write_file → p.read_at < p.write_at → p.write_at < p.read_at + 4 → IsShort bytes p
finds_few bytes p same some few = record {
  not_out = λ out. let lt = out.earlier in omega (arith, lt, same);
  not_end = λ end. omega (arith, end.1, some);
  few = omega (arith, left_before p (bytes p.read_file) same, few);
}

-- what stands at the end of the list, and before it, in the write file
pub finds_end : (p : Positions) → IsOrdered p → p.write_file ≤ p.read_file → p.write_at - p.read_at ≡ 0 → IsAtEnd p
finds_end p (inl lt) le none = absurd (omega (arith, lt, le))
finds_end p (inr same) le none = (same.0, omega (arith, same.1, none))

pub finds_little : (bytes : ℕ → List ℕ) (p : Positions) → IsOrdered p → p.write_file ≤ p.read_file → 0 < p.write_at - p.read_at → p.write_at - p.read_at < 4 → IsShort bytes p
finds_little bytes p (inl lt) le some few = absurd (omega (arith, lt, le))
finds_little bytes p (inr same) le some few = finds_few bytes p same.0 (omega (arith, some)) (omega (arith, same.1, few))

pub finds_head : (bytes : ℕ → List ℕ) (p : Positions) (head : Head) → IsOrdered p → p.write_file ≤ p.read_file → 4 ≤ p.write_at - p.read_at → HeadIs (drop p.read_at (bytes p.read_file)) head → FileFinds bytes p head
finds_head bytes p head (inl lt) le room is = absurd (omega (arith, lt, le))
finds_head bytes p head (inr same) le room is = finds_last bytes p head same.0 (omega (arith, room)) is

pub short_is_damage : (least limit : ℕ) (bytes : ℕ → List ℕ) (p : Positions) → IsShort bytes p → IsDamage least limit bytes p 0
short_is_damage least limit bytes p s = record { not_out = s.not_out; not_end = s.not_end; unreadable = short s.few refl }

-- a size that is not taken
pub refused_is_damage : (least limit : ℕ) (bytes : ℕ → List ℕ) (p : Positions) (size : ℕ) → IsOrdered p → BeginsWithSize (left_of p (bytes p.read_file)) size
    → ¬ (IsSize least limit size × IsOrdered (behind p size)) → IsDamage least limit bytes p size
refused_is_damage least limit bytes p size order b bad =
    let enough = b.enough in
    let left = left_of p (bytes p.read_file) in
    let is = size_in_front left size b in
    record {
      not_out = left_not_out bytes p (omega (arith, enough));
      not_end = left_not_end bytes p (omega (arith, enough));
      unreadable = elim (cases_lt size least) [
        | inl low ↦ wrong enough is (inl low)
        | inr high ↦ elim (cases_lt limit size) [
          | inl past ↦ wrong enough is (inr past)
          | inr most ↦ elim order [
            | inl lt ↦ absurd (bad ((high, most), inl lt))
            | inr same ↦ elim (cases_lt p.write_at (p.read_at + (4 + size))) [
              | inl past ↦ passing enough is (omega (arith, left_before p (bytes p.read_file) same.0, past))
              | inr fits ↦ absurd (bad ((high, most), inr (same.0, fits)))
            ]
          ]
        ]
      ];
    }

-- fewer bytes than the size says
pub passing_is_damage : (least limit : ℕ) (bytes : ℕ → List ℕ) (p : Positions) (size n : ℕ) → BeginsWithSize (left_of p (bytes p.read_file)) size
    → n < size → n ≡ length (bytes p.read_file) - (p.read_at + 4) → IsDamage least limit bytes p size
passing_is_damage least limit bytes p size n b few is =
    let enough = b.enough in
    let left = left_of p (bytes p.read_file) in
    let most = left_most p (bytes p.read_file) in
    record {
      not_out = left_not_out bytes p (omega (arith, enough));
      not_end = left_not_end bytes p (omega (arith, enough));
      unreadable = passing enough (size_in_front left size b) (omega (arith, most, few, is));
    }

-- fewer bytes than the size says were read behind it
pub few_damage : (q r : Seen) (files : Files) (into new : List ℕ) (size n : ℕ) → q ≡ r → IsSize r.options.least r.options.limit size → r.options.limit ≤ length into
    → ReadsAt (files (data_file q.name q.positions.read_file)) (q.positions.read_at + 4) (take size into) new (Got n) → n < size
    → BeginsWithSize (left_of r.positions (content files r.name r.positions.read_file)) size → IsDamage r.options.least r.options.limit (content files r.name) r.positions size
few_damage q r files into new size n e taken room reads few b =
    let here : ReadsAt (files (data_file r.name r.positions.read_file)) (r.positions.read_at + 4) (take size into) new (Got n)
    = subst (λ (x : Seen). ReadsAt (files (data_file x.name x.positions.read_file)) (x.positions.read_at + 4) (take size into) new (Got n)) e reads in
    let buffer : length (take size into) ≡ size = omega (arith, length-take size into, room, taken.1) in
    passing_is_damage r.options.least r.options.limit (content files r.name) r.positions size n b few (omega (arith, here.0, buffer, few))

-- the part ends behind a record that fits
part_room : (p : Positions) (bytes : List ℕ) (n : ℕ) → IsOrdered (behind p n) → p.read_at + (4 + n) ≤ length bytes → p.read_at + (4 + n) ≤ part_end p p.read_file (length bytes)
part_room p bytes n order fits =
    elim (eqb_tells p.read_file p.write_file) [
      | inl last ↦ elim order [ inl lt ↦ absurd (omega (arith, lt, last.1)) | inr same ↦ omega (arith, same.1, end_last p (length bytes) last.1) ]
      | inr earlier ↦ omega (arith, fits, if_apart p.read_file p.write_file p.write_at (length bytes) earlier.1)
    ]

-- a record that stands in the file and ends before the write position is the first of what is left
pub left_begins : (p : Positions) (bytes body back : List ℕ) → IsOrdered (behind p (length body)) → drop p.read_at bytes ≡ record_bytes body ++ back
    → (rest : List ℕ) × (left_of p bytes ≡ record_bytes body ++ rest)
left_begins p bytes body back order whole =
    let n = 4 + length body in
    let fits : p.read_at + n ≤ length bytes = omega (arith, ap length whole, length-drop p.read_at bytes, length-append (record_bytes body) back, length-record body) in
    let end = part_end p p.read_file (length bytes) in
    let room : p.read_at + n ≤ end = part_room p bytes (length body) order fits in
    let count : end - p.read_at ≡ length (record_bytes body) + (end - (p.read_at + n)) = omega (arith, room, length-record body) in (
      take (end - (p.read_at + n)) back,
      ap (take (end - p.read_at)) whole ∙ ap (λ (m : ℕ). take m (record_bytes body ++ back)) count ∙ take-append-add (record_bytes body) back (end - (p.read_at + n)),
    )

-- the record that was read
pub read_record : (least limit : ℕ) (p : Positions) (bytes : List ℕ) (size : ℕ) → IsSize least limit size → IsOrdered (behind p size) → BeginsWithSize (left_of p bytes) size
    → size ≤ length bytes - (p.read_at + 4) → HasRecord least limit (left_of p bytes) 0 (take size (drop (p.read_at + 4) bytes))
read_record least limit p bytes size is order b fits =
    let enough = b.enough in
    let body = take size (drop (p.read_at + 4) bytes) in
    let left = left_of p bytes in
    let m = part_end p p.read_file (length bytes) - p.read_at in
    let here = drop p.read_at bytes in
    let most : length left ≤ m = omega (arith, length-take m here) in
    let len : length body ≡ size = omega (arith, length-take size (drop (p.read_at + 4) bytes), length-drop (p.read_at + 4) bytes, fits) in
    let head : take 4 here ≡ to_be_bytes w32 (length body)
    = sym (take-take 4 m here (omega (arith, enough, most))) ∙ b.is ∙ ap (to_be_bytes w32) (sym len) in
    let back = drop size (drop (p.read_at + 4) bytes) in
    let whole : here ≡ record_bytes body ++ back
    = sym (take-append-drop 4 here) ∙ ap (λ (x : List ℕ). x ++ drop 4 here) head
    ∙ ap (λ (x : List ℕ). to_be_bytes w32 (length body) ++ x) (drop-drop 4 p.read_at bytes ∙ sym (take-append-drop size (drop (p.read_at + 4) bytes)))
    ∙ sym (append_assoc (to_be_bytes w32 (length body)) body back) in
    let first = left_begins p bytes body back (subst (λ (n : ℕ). IsOrdered (behind p n)) (sym len) order) whole in
    record { front = []; back = first.0; whole = first.1; here = refl; size = subst (IsSize least limit) (sym len) is }

-- the four bytes of a size
pub size_begins : (q r : Seen) (files : Files) (old new : List ℕ) (size n : ℕ) → q ≡ r → length old ≡ 4 → n ≡ 4 → ReadsAt (files (data_file q.name q.positions.read_file)) q.positions.read_at old new (Got n)
    → to_be_bytes w32 size ≡ new → size < 2 ^ 32 → BeginsWithSize (drop r.positions.read_at (content files r.name r.positions.read_file)) size
size_begins q r files old new size n e four all reads is small =
    let here = drop q.positions.read_at (content files q.name q.positions.read_file) in
    let none : drop n old ≡ [] = drop_all n old (omega (arith, four, all)) in
    subst (λ (x : Seen). BeginsWithSize (drop x.positions.read_at (content files x.name x.positions.read_file)) size) e
    (record {
      enough = omega (arith, reads.0, all, length-drop q.positions.read_at (content files q.name q.positions.read_file));
      is = ap (λ (m : ℕ). take m here) (sym all) ∙ sym (append-nil (take n here)) ∙ ap (λ (x : List ℕ). take n here ++ x) (sym none) ∙ sym reads.1 ∙ sym is;
      small = small;
    })

-- or fewer of them
pub few_read : (q r : Seen) (files : Files) (old new : List ℕ) (n : ℕ) → q ≡ r → length old ≡ 4 → n ≢ 4 → ReadsAt (files (data_file q.name q.positions.read_file)) q.positions.read_at old new (Got n)
    → length (drop r.positions.read_at (content files r.name r.positions.read_file)) < 4
few_read q r files old new n e four fewer reads =
    subst (λ (x : Seen). length (drop x.positions.read_at (content files x.name x.positions.read_file)) < 4) e
    (elim (cases_lt (length (content files q.name q.positions.read_file) - q.positions.read_at) 4) [
      | inl few ↦ omega (arith, few, length-drop q.positions.read_at (content files q.name q.positions.read_file))
      | inr enough ↦ absurd (fewer (omega (arith, reads.0, four, enough)))
    ])

-- the length that was asked for
pub known_length : (q r : Seen) (old mid : Files) (len : ℕ) → q ≡ r → SameFiles old mid → len ≡ length (content mid q.name q.positions.read_file) → len ≡ length (content old r.name r.positions.read_file)
known_length q r old mid len e same is =
    subst (λ (x : Seen). len ≡ length (content old x.name x.positions.read_file)) e (is ∙ ap (λ (o : Option (List ℕ)). length (unwrap_or o [])) (same (data_file q.name q.positions.read_file)))

-- the bytes behind the size were read into the front of the buffer
pub got_reads : (q r : Seen) (files : Files) (into new : List ℕ) (size n : ℕ) → q ≡ r → IsSize r.options.least r.options.limit size × IsOrdered (behind r.positions size) → r.options.limit ≤ length into
    → ReadsAt (files (data_file q.name q.positions.read_file)) (q.positions.read_at + 4) (take size into) new (Got n) → size ≤ n
    → BeginsWithSize (left_of r.positions (content files r.name r.positions.read_file)) size
    → (size ≤ length (new ++ drop size into))
    × HasRecord r.options.least r.options.limit (left_of r.positions (content files r.name r.positions.read_file)) 0 (take size (new ++ drop size into))
got_reads q r files into new size n e taken room reads all b =
    let here : ReadsAt (files (data_file r.name r.positions.read_file)) (r.positions.read_at + 4) (take size into) new (Got n)
    = subst (λ (x : Seen). ReadsAt (files (data_file x.name x.positions.read_file)) (x.positions.read_at + 4) (take size into) new (Got n)) e reads in
    let bytes = content files r.name r.positions.read_file in
    let rest = drop (r.positions.read_at + 4) bytes in
    let buffer : length (take size into) ≡ size = omega (arith, length-take size into, room, taken.0.1) in
    let count : n ≡ size = omega (arith, here.0, buffer, all) in
    let fits : size ≤ length bytes - (r.positions.read_at + 4) = omega (arith, here.0, buffer, all) in
    let none : drop n (take size into) ≡ [] = drop_all n (take size into) (omega (arith, buffer, all)) in
    let is : new ≡ take size rest
    = here.1 ∙ ap (λ (x : List ℕ). take n rest ++ x) none ∙ append-nil (take n rest) ∙ ap (λ (k : ℕ). take k rest) count in
    let len : length new ≡ size = omega (arith, ap length is, length-take size rest, length-drop (r.positions.read_at + 4) bytes, fits) in
    let front : take size (new ++ drop size into) ≡ take size rest = take_at new (drop size into) size len ∙ is in (
      omega (arith, length-append new (drop size into), len),
      subst (λ (x : List ℕ). HasRecord r.options.least r.options.limit (left_of r.positions bytes) 0 x) (sym front)
          (read_record r.options.least r.options.limit r.positions bytes size taken.0 taken.1 b fits),
    )
