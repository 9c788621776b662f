-- Pictures by number, and what can be computed of them: which are reachable, the lowest standstill, the way to it.
use Rattle.std.specs.Prelude.{◌≡◌, ℕ, zero, suc, ◌+◌, ◌-◌, ◌*◌, ◌/◌, ◌%◌, ◌<◌, ◌≤◌, Bool, true, false, cond, not, ◌&&◌, ◌||◌, ◌≢◌, ◌↔◌, List, [], ◌∷◌, ◌++◌, length, Some, None, Option, ◌==◌, nat_lt}
use Rattle.std.specs.Option.{unwrap_or}
use Rattle.plans.specs.Plan.{Route, Plan}
use Rattle.laws.specs.Paths.{carriers, Carrier, entries, entry, HavePaths, last, sum_over}
use Rattle.laws.specs.Rules.{first, when}
use Rattle.laws.specs.Pictures.{Picture, CanMove, Moved, LeadTo, Reachable, Standstill, NoStandstill}

-- how many pictures carriers have together
abbrev pub pictures_of : List Route → ℕ
pictures_of [] = 1
pictures_of (r ∷ rs) = length r.path * pictures_of rs

abbrev pub pictures : Plan → ℕ
pictures p = pictures_of p.carriers

-- a picture's number: carrier 0's entry, plus carrier 1's entry times path 0's entry count, and so on
abbrev pub number_of : List Route → Picture → ℕ
number_of [] x = 0
number_of (r ∷ rs) x = x 0 + length r.path * number_of rs (λ c. x (suc c))

abbrev pub number : Plan → Picture → ℕ
number p x = number_of p.carriers x

-- the picture that has a number
abbrev pub picture_of : List Route → ℕ → Picture
picture_of [] n c = 0
picture_of (r ∷ rs) n zero = n % length r.path
picture_of (r ∷ rs) n (suc c) = picture_of rs (n / length r.path) c

abbrev pub picture : Plan → ℕ → Picture
picture p n = picture_of p.carriers n

-- by how much a move of carrier c raises the number
abbrev pub weight_of : List Route → ℕ → ℕ
weight_of [] c = 1
weight_of (r ∷ rs) zero = 1
weight_of (r ∷ rs) (suc c) = length r.path * weight_of rs c

abbrev pub weight : Plan → ℕ → ℕ
weight p c = weight_of p.carriers c

-- whether one of the numbers below n passes a test
abbrev pub any : ℕ → (ℕ → Bool) → Bool
any zero f = false
any (suc n) f = any n f || f n

-- whether another carrier than c is at a place
unfoldable pub taken : Plan → Picture → ℕ → ℕ → Bool
taken p x c place = any (carriers p) (λ d. not (d == c) && entry p d (x d) == place)

-- whether c is not at its last entry
unfoldable pub unfinished : Plan → Picture → ℕ → Bool
unfinished p x c = not (x c == last p c)

unfoldable pub can_move : Plan → Picture → ℕ → Bool
can_move p x c = unfinished p x c && not (taken p x c (entry p c (suc (x c))))

-- whether a move of c led into picture n from one that is marked
unfoldable pub came : Plan → (ℕ → Bool) → ℕ → ℕ → Bool
came p marked n c = nat_lt 0 (picture p n c) && (not (taken p (picture p n) c (entry p c (picture p n c))) && marked (n - weight p c))

-- the marks of the first n pictures, filled in rising order: the first picture is marked, and each into which a move led from a marked one
abbrev pub marks : Plan → ℕ → ℕ → Bool
marks p zero m = false
marks p (suc n) m = cond (m == n) (n == 0 || any (carriers p) (came p (marks p n) n)) (marks p n m)

-- whether picture n is reachable
unfoldable pub reachable : Plan → ℕ → Bool
reachable p n = marks p (suc n) n

-- whether some carrier is not at its last entry, and none can move
unfoldable pub still : Plan → Picture → Bool
still p x = any (carriers p) (unfinished p x) && not (any (carriers p) (can_move p x))

-- the lowest-numbered standstill
unfoldable pub lowest_standstill : Plan → Option ℕ
lowest_standstill p = first (pictures p) (λ n. when (reachable p n && still p (picture p n)) n)

-- the lowest carrier whose last move led into picture n from a reachable one
unfoldable pub last_mover : Plan → ℕ → ℕ
last_mover p n = unwrap_or (first (carriers p) (λ c. when (came p (reachable p) n c) c)) 0

-- the last k moves into picture n, in their order, taken back one by one
abbrev pub way_back : Plan → ℕ → ℕ → List ℕ
way_back p zero n = []
way_back p (suc k) n = way_back p k (n - weight p (last_mover p n)) ++ last_mover p n ∷ []

-- all moves into picture n: as many as its entry numbers make together
unfoldable pub way : Plan → ℕ → List ℕ
way p n = way_back p (sum_over (carriers p) (picture p n)) n

-- moves as turns: each as the carrier's number twice
abbrev pub twice : List ℕ → List ℕ
twice [] = []
twice (c ∷ cs) = c ∷ c ∷ twice cs

-- Laws.

-- each carrier is at an entry of its path
abbrev pub Inside : Plan → Picture → Type 0
Inside p x = (c : ℕ) → Carrier p c → x c < entries p c

-- Numbers and pictures undo one another.
pub record NumbersArePictures (p : Plan) : Type 0 where
  pub of_number : (n : ℕ) → n < pictures p → Inside p (picture p n) × (number p (picture p n) ≡ n)
  pub of_picture : (x : Picture) → Inside p x → (number p x < pictures p) × ((c : ℕ) → Carrier p c → picture p (number p x) c ≡ x c)

-- What is computed of a picture is so.
abbrev pub ReachableIsComputed : Type 0
ReachableIsComputed = (p : Plan) (n : ℕ) → n < pictures p → (reachable p n ≡ true) ↔ Reachable p (picture p n)

-- The lowest-numbered standstill is found, or there is none at all.
abbrev pub FindsLowest : Plan → Option ℕ → Type 0
FindsLowest p None = NoStandstill p
FindsLowest p (Some n) = (n < pictures p) × Standstill p (picture p n) × ((m : ℕ) → m < n → Standstill p (picture p m) → ⊥)

abbrev pub LowestStandstillIsFound : Type 0
LowestStandstillIsFound = (p : Plan) → HavePaths p → FindsLowest p (lowest_standstill p)

-- The way leads to its picture.
abbrev pub WaysLead : Type 0
WaysLead = (p : Plan) (n : ℕ) → n < pictures p → Reachable p (picture p n) → LeadTo p (way p n) (picture p n)

-- a move of c led into y from a reachable picture
pub record LastMove (p : Plan) (y : Picture) (c : ℕ) : Type 0 where
  pub before : Picture
  pub reached : Reachable p before
  pub could : CanMove p before c
  pub moved : Moved c before y

-- Each time the lowest carrier is taken back whose last move came from a reachable picture.
abbrev pub LowestGoesBack : Type 0
LowestGoesBack =
    (p : Plan) (n : ℕ) → n < pictures p → Reachable p (picture p n) → n ≢ 0 →
    LastMove p (picture p n) (last_mover p n) × ((c : ℕ) → LastMove p (picture p n) c → last_mover p n ≤ c)
