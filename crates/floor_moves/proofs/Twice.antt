-- What is put in twice is there as it was put in last.
use Rattle.std.proofs.Common.{◌≡◌, ℕ, Bool, true, false, cond, List, ◌∷◌, ◌++◌, ap, ◌∙◌}
use Rattle.std.specs.List.{All, filter}
use Rattle.std.proofs.lemmas.List.{append-nil}
use Rattle.std.proofs.lemmas.List.Elements.{All-weaker, filter-append, filter_passes}
use Rattle.nsq_base.specs.Names.{is_before, put_by}
use Rattle.nsq_base.proofs.PutBy.{filter_all, filter_none}
use Rattle.floor_moves.proofs.Naming.{not_after, not_before}

keep_front : {X : Type 0} (p : X → Bool) (a : List X) (x : X) (b : List X) → All (λ y. p y ≡ true) a → p x ≡ false → All (λ y. p y ≡ false) b → filter p (a ++ x ∷ b) ≡ a
keep_front p a x b h e k =
    filter-append p a (x ∷ b) ∙ ap (λ ys. ys ++ filter p (x ∷ b)) (filter_all p a h) ∙ ap (λ c. a ++ cond c (x ∷ filter p b) (filter p b)) e ∙ ap (λ ys. a ++ ys) (filter_none p b k) ∙ append-nil a

keep_back : {X : Type 0} (p : X → Bool) (a : List X) (x : X) (b : List X) → All (λ y. p y ≡ false) a → p x ≡ false → All (λ y. p y ≡ true) b → filter p (a ++ x ∷ b) ≡ b
keep_back p a x b h e k = filter-append p a (x ∷ b) ∙ ap (λ ys. ys ++ filter p (x ∷ b)) (filter_none p a h) ∙ ap (λ c. cond c (x ∷ filter p b) (filter p b)) e ∙ filter_all p b k

pub put_again : {X : Type 0} (key : X → List ℕ) (xs : List X) (x y : X) → key x ≡ key y → put_by key (put_by key xs x) y ≡ put_by key xs y
put_again {X} key xs x y same =
    let front : X → Bool = λ z. is_before (key z) (key y) in
    let back : X → Bool = λ z. is_before (key y) (key z) in
    let a : List X = filter front xs in
    let b : List X = filter back xs in
    let once : put_by key xs x ≡ a ++ x ∷ b = ap (λ k. filter (λ z. is_before (key z) k) xs ++ x ∷ filter (λ z. is_before k (key z)) xs) same in
    let here : front x ≡ false = ap (λ k. is_before k (key y)) same ∙ not_before (key y) in
    let there : back x ≡ false = ap (is_before (key y)) same ∙ not_before (key y) in
    let kept : filter front (a ++ x ∷ b) ≡ a = keep_front front a x b (filter_passes front xs) here (All-weaker (λ z. back z ≡ true) (λ z. front z ≡ false) (λ z h. not_after (key y) (key z) h) b (filter_passes back xs)) in
    let left : filter back (a ++ x ∷ b) ≡ b = keep_back back a x b (All-weaker (λ z. front z ≡ true) (λ z. back z ≡ false) (λ z h. not_after (key z) (key y) h) a (filter_passes front xs)) there (filter_passes back xs) in
    ap (λ ys. put_by key ys y) once ∙ ap (λ ys. ys ++ y ∷ filter back (a ++ x ∷ b)) kept ∙ ap (λ ys. a ++ y ∷ ys) left
