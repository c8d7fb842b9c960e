-- A client that joined speaks last, while the definitions let it speak first.
use Rattle.std.proofs.Common.{◌≡◌, ◌<◌, ℕ, Bool, true, false, nat_lt, List, [], ◌∷◌, ◌++◌, length, get_or, append_assoc, append-nil, refl, sym, ap, subst, ◌∙◌, arith}
use Rattle.std.specs.Prelude.{HoldsAt}
use Rattle.std.specs.List.{Contains, filter}
use Rattle.std.proofs.lemmas.Bool.{le-ltb, ltb-true}
use Rattle.std.proofs.lemmas.List.Elements.{All-cons, All-nil, All-weaker, filter_passes}
use Rattle.nsq_base.proofs.PutBy.{filter-three, filter_all, filter_none}
use Rattle.nsq_outside.specs.Files.{Files}
use Rattle.v2_frame.specs.declared.command.Command.TheVariants.{Nop, Sub}
use Rattle.broker_history.specs.State.{Client, State, put_client, with_client}
use Rattle.broker_history.specs.Changes.{made_channel}
use Rattle.broker_history.specs.Step.{spoke, subscribed}
use Rattle.floor_rooms.specs.declared.hall.Hall.{Hall}
use Rattle.floor_rooms.specs.Standing.{Carries}
use Rattle.floor_rooms.specs.Changes.{KeepsSince}
use Rattle.floor_rooms.specs.Kept.{NamesTold}
use Rattle.floor_rooms.specs.Sound.{IsSound}
use Rattle.floor_rooms.proofs.Dating.{since_kept}
use Rattle.floor_rooms.proofs.Forming.{some_at}
use Rattle.floor_rooms.proofs.Naming.{names_kept}
use Rattle.floor_acts.specs.Acts.{ChangesAt, DoesAt}
use Rattle.floor_acts.proofs.Putting.{changed_here, changed_range, changes_then}
use Rattle.floor_calls.specs.Subscribing.{Joins, Remains}

-- a client that is put in twice is there as it was put in last
pub put_again : (xs : List Client) (x y : Client) → x.number ≡ y.number → put_client (put_client xs x) y ≡ put_client xs y
put_again xs x y same =
    let k : ℕ = y.number in
    let p : Client → Bool = λ d. nat_lt d.number k in
    let q : Client → Bool = λ d. nat_lt k d.number in
    let front : List Client = filter p xs in
    let back : List Client = filter q xs in
    let whole : put_client xs x ≡ front ++ (x ∷ []) ++ back =
    ap (λ n. filter (λ (d : Client). nat_lt d.number n) xs ++ x ∷ filter (λ (d : Client). nat_lt n d.number) xs) same ∙ sym (append_assoc front (x ∷ []) back) in
    let lesser : filter p (front ++ (x ∷ []) ++ back) ≡ front =
    filter-three p front (x ∷ []) back front [] [] (filter_all p front (filter_passes p xs)) (filter_none p (x ∷ []) (All-cons (λ (d : Client). p d ≡ false) x [] (le-ltb x.number k (omega (arith, same))) (All-nil (λ (d : Client). p d ≡ false))))
    (filter_none p back (All-weaker (λ (d : Client). q d ≡ true) (λ (d : Client). p d ≡ false) (λ d h. le-ltb d.number k (omega (arith, ltb-true k d.number h))) back (filter_passes q xs)))
    ∙ append-nil (front ++ []) ∙ append-nil front in
    let greater : filter q (front ++ (x ∷ []) ++ back) ≡ back =
    filter-three q front (x ∷ []) back [] [] back (filter_none q front (All-weaker (λ (d : Client). p d ≡ true) (λ (d : Client). q d ≡ false) (λ d h. le-ltb k d.number (omega (arith, ltb-true d.number k h))) front (filter_passes p xs)))
    (filter_none q (x ∷ []) (All-cons (λ (d : Client). q d ≡ false) x [] (le-ltb k x.number (omega (arith, same))) (All-nil (λ (d : Client). q d ≡ false)))) (filter_all q back (filter_passes q xs)) in
    ap (λ zs. filter p zs ++ y ∷ filter q zs) whole ∙ ap (λ zs. zs ++ y ∷ filter q (front ++ (x ∷ []) ++ back)) lesser ∙ ap (λ zs. front ++ y ∷ zs) greater

-- so it is the same whether it speaks first or last
spoke_last : (s : State) (at : ℕ) (topic channel : List ℕ) (c : Client)
    → with_client (with_client (made_channel s topic channel) (subscribed topic channel c)) (spoke at (subscribed topic channel c)) ≡ with_client (made_channel (with_client s (spoke at c)) topic channel) (subscribed topic channel (spoke at c))
spoke_last s at topic channel c =
    ap (λ (cs : List Client). record (made_channel s topic channel) { clients = cs })
    (put_again s.clients (subscribed topic channel c) (spoke at (subscribed topic channel c)) refl ∙ sym (put_again s.clients (spoke at c) (subscribed topic channel (spoke at c)) refl))

module _ (h0 h1 h2 : Hall) (k : ℕ) (topic channel : List ℕ) (within : k < length h0.clients.items) (rest1 : h1 ≡ record h0 { rooms = h1.rooms; clients = h1.clients; pending = h1.pending; unsaved_names = h1.unsaved_names }) (joins : HoldsAt (Joins topic channel k h0 h1) h0.clients.items k)
    (rest2 : h2 ≡ record h1 { clients = h2.clients }) where
  said_changes : ChangesAt k (subscribed topic channel) h0.clients.items h1.clients.items
  said_changes = λ d. (joins d).clients

  said_moment : h1.moment ≡ h0.moment
  said_moment = ap (λ (x : Hall). x.moment) rest1

  said_one : Client
  said_one = (some_at h0.clients.items k within).0

  pub said_clients : ChangesAt k (spoke h1.moment) h1.clients.items h2.clients.items → ChangesAt k (λ c. subscribed topic channel (spoke h0.moment c)) h0.clients.items h2.clients.items
  said_clients spoken =
      subst (λ (m : ℕ). ChangesAt k (λ c. subscribed topic channel (spoke m c)) h0.clients.items h2.clients.items) said_moment
      (changes_then (subscribed topic channel) (spoke h1.moment) k h0.clients.items h1.clients.items h2.clients.items within said_changes spoken)

  pub said_told : (files : Files) → DoesAt k Nop true h1 files h2 files → DoesAt k (Sub topic channel) false h0 files h2 files
  said_told files speaks =
      λ d s holds.
      let c : Client = get_or h0.clients.items k d in
      let u : State = with_client (made_channel s topic channel) (subscribed topic channel c) in
      let b = speaks d u ((joins d).stands files s holds) in (
        b.0,
        b.1 ∙ ap (λ x. with_client u (spoke h1.moment x)) (changed_here (subscribed topic channel) k h0.clients.items h1.clients.items d within said_changes) ∙ ap (λ m. with_client u (spoke m (subscribed topic channel c))) said_moment ∙ spoke_last s h0.moment topic channel c,
        b.2,
      )

  pub said_listed : Contains h2.pending.items topic
  said_listed = subst (λ (x : Hall). Contains x.pending.items topic) (sym rest2) (joins said_one).listed

  pub said_names : NamesTold h0 h2
  said_names =
      let n : NamesTold h0 h1 = (joins said_one).names in
      subst (λ (x : Hall). NamesTold h0 x) (sym rest2) (record { before = n.before; same = n.same })

  pub said_since : KeepsSince h0.moment h0.rooms.items h2.rooms.items
  said_since = subst (λ (x : Hall). KeepsSince h0.moment h0.rooms.items x.rooms.items) (sym rest2) (joins said_one).since

-- what a client needs to speak, once it joined
pub joined_sound : (h0 h1 : Hall) (k : ℕ) (topic channel : List ℕ) → k < length h0.clients.items → HoldsAt (Joins topic channel k h0 h1) h0.clients.items k → IsSound h1
joined_sound h0 h1 k topic channel within joins = (joins (some_at h0.clients.items k within).0).sound

pub joined_range : (h0 h1 : Hall) (k : ℕ) (topic channel : List ℕ) → k < length h0.clients.items → HoldsAt (Joins topic channel k h0 h1) h0.clients.items k → k < length h1.clients.items
joined_range h0 h1 k topic channel within joins = changed_range (subscribed topic channel) k h0.clients.items h1.clients.items within (λ d. (joins d).clients)

-- where it didn't, all is as it was
pub not_joined_names : (h0 h1 : Hall) → Remains h0 h1 → NamesTold h0 h1
not_joined_names h0 h1 r = names_kept h0.moment h0 h1 r.same.unsaved_names r.same.rooms

pub not_joined_since : (h0 h1 : Hall) → Remains h0 h1 → KeepsSince h0.moment h0.rooms.items h1.rooms.items
not_joined_since h0 h1 r = since_kept h0.moment h0.rooms.items h1.rooms.items r.same.rooms

pub not_joined_stands : (h0 h1 : Hall) (files : Files) → Remains h0 h1 → Carries h0 files h1 files (λ s t. t ≡ s)
not_joined_stands h0 h1 files r = λ s holds. (s, refl, r.stands files s holds)
