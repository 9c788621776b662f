-- Loops that read one item after another.
use Rattle.std.proofs.Common.{◌≡◌, ℕ, zero, suc, ◌+◌, ◌-◌, ◌*◌, ◌<◌, ◌≤◌, true, false, List, [], ◌∷◌, ◌++◌, length, Some, Ok, Err, Option, Result, sym, refl, ap, append_assoc, append-nil, arith}
use Rattle.std.proofs.lemmas.Bool.{le-leb, lt-leb}
use Rattle.rail_floor.specs.declared.legs.Leg.{Leg}
use Rattle.plans.specs.Plan.{Route}
use Rattle.files.specs.declared.faults.FileFault.{FileFault}
use Rattle.files.specs.declared.faults.FileFault.TheVariants.{OutOfRange, Trailing}
use Rattle.files.specs.declared.faults.ReadFault.{ReadFault}
use Rattle.files.specs.declared.faults.ReadFault.TheVariants.{Short, File, Memory}
use Rattle.files.specs.Parse.{◌>>=◌, ranged_at, leg_at, legs_at, entries_at, carrier_at, follows_at, carriers_at}
use Rattle.files.specs.Reading.{Agrees}

-- what was read already, before what is read next
unfoldable pub after : {X : Type 0} → List X → Result (List X) FileFault → Result (List X) FileFault
after xs r = r >>= λ more. Ok (xs ++ more)

pub after_none : {X : Type 0} (r : Result (List X) FileFault) → r ≡ after [] r
unfolding after
after_none (Ok x) = refl
after_none (Err e) = refl

pub after_all_lem : {X : Type 0} (xs : List X) → after xs (Ok []) ≡ Ok xs
unfolding after
after_all_lem xs = ap (λ ys. Ok ys) (append-nil xs)

pub after_more : {X : Type 0} (xs : List X) (x : X) (r : Result (List X) FileFault) → after xs (r >>= λ more. Ok (x ∷ more)) ≡ after (xs ++ x ∷ []) r
unfolding after
after_more xs x (Ok more) = ap (λ ys. Ok ys) (sym (append_assoc xs (x ∷ []) more))
after_more xs x (Err e) = refl

-- what is left, where i of n are read
one_less : (n i : ℕ) → i < n → n - i ≡ suc (n - (i + 1))
one_less n i h = omega arith

-- legs, where i of n are read
pub legs_more : (bytes : List ℕ) (mark at size : ℕ) (before : Option Leg) (n i : ℕ) (xs : List Leg) (leg : Leg) → Ok leg ≡ leg_at bytes mark at size before → i < n → after xs (legs_at bytes mark at size before (n - i)) ≡ after (xs ++ leg ∷ []) (legs_at bytes mark (at + 6) size (Some leg) (n - (i + 1)))
unfolding legs_at
legs_more bytes mark at size before n i xs leg e h = rw (one_less n i h, ← e) (after_more xs leg (legs_at bytes mark (at + 6) size (Some leg) (n - (i + 1))))

pub legs_stop : (bytes : List ℕ) (mark at size : ℕ) (before : Option Leg) (n i : ℕ) (xs : List Leg) (f : FileFault) → Err f ≡ leg_at bytes mark at size before → i < n → after xs (legs_at bytes mark at size before (n - i)) ≡ Err f
unfolding legs_at after
legs_stop bytes mark at size before n i xs f e h = rw (one_less n i h, ← e) refl

-- what a refusal of one part says of the whole
pub agrees_err : {X Y Z W : Type 0} (f : X → Y) (h : Z → W) (e : ReadFault) (s : Result Y FileFault) (t : Result W FileFault) → ((g : FileFault) → s ≡ Err g → t ≡ Err g) → Agrees f (Err e) s → Agrees h (Err e) t
agrees_err f h (Short table) s t k a = a
agrees_err f h (File g) s t k a = k g a
agrees_err f h Memory s t k a = tt

-- entries, where i of n are read
pub entries_more : (bytes : List ℕ) (mark at last n i : ℕ) (xs : List ℕ) (x : ℕ) → Ok x ≡ ranged_at bytes mark at 0 last → i < n → after xs (entries_at bytes mark at last (n - i)) ≡ after (xs ++ x ∷ []) (entries_at bytes mark (at + 2) last (n - (i + 1)))
unfolding entries_at
entries_more bytes mark at last n i xs x e h = rw (one_less n i h, ← e) (after_more xs x (entries_at bytes mark (at + 2) last (n - (i + 1))))

pub entries_stop : (bytes : List ℕ) (mark at last n i : ℕ) (xs : List ℕ) (f : FileFault) → Err f ≡ ranged_at bytes mark at 0 last → i < n → after xs (entries_at bytes mark at last (n - i)) ≡ Err f
unfolding entries_at after
entries_stop bytes mark at last n i xs f e h = rw (one_less n i h, ← e) refl

-- carriers, where the loop stands at `at` and has read the carriers xs
module _ (bytes : List ℕ) (at size room : ℕ) (xs : List Route) where
  pub carriers_more : (n i : ℕ) (x : Route) → Ok true ≡ follows_at bytes at → carrier_at bytes at size room ≡ Ok x → i < n → after xs (carriers_at bytes at size room (n - i)) ≡ after (xs ++ x ∷ []) (carriers_at bytes (at + (8 + 2 * length x.path)) size (room - length x.path) (n - (i + 1)))
  unfolding carriers_at
  carriers_more n i x d e h = rw (one_less n i h, ← d, e) (after_more xs x (carriers_at bytes (at + (8 + 2 * length x.path)) size (room - length x.path) (n - (i + 1))))

  pub carriers_refused : (n i : ℕ) (f : FileFault) → Ok true ≡ follows_at bytes at → carrier_at bytes at size room ≡ Err f → i < n → after xs (carriers_at bytes at size room (n - i)) ≡ Err f
  unfolding carriers_at after
  carriers_refused n i f d e h = rw (one_less n i h, ← d, e) refl

  pub carriers_full : (n : ℕ) → Ok true ≡ follows_at bytes at → n ≡ 0 → after xs (carriers_at bytes at size room n) ≡ Err (OutOfRange at)
  unfolding carriers_at after
  carriers_full n d h = rw (h, ← d) refl

  pub carriers_stop : (n : ℕ) (f : FileFault) → Err f ≡ follows_at bytes at → after xs (carriers_at bytes at size room n) ≡ Err f
  unfolding carriers_at after
  carriers_stop zero f d = rw (← d) refl
  carriers_stop (suc n) f d = rw (← d) refl

  pub carriers_trailing : (n : ℕ) → Ok false ≡ follows_at bytes at → at + 2 < length bytes → after xs (carriers_at bytes at size room n) ≡ Err (Trailing (at + 2))
  unfolding carriers_at after
  carriers_trailing zero d h = rw (← d, lt-leb (length bytes) (at + 2) h) refl
  carriers_trailing (suc n) d h = rw (← d, lt-leb (length bytes) (at + 2) h) refl

  pub carriers_end : (n : ℕ) → Ok false ≡ follows_at bytes at → length bytes ≤ at + 2 → after xs (carriers_at bytes at size room n) ≡ Ok xs
  unfolding carriers_at
  carriers_end zero d h = rw (← d, le-leb (length bytes) (at + 2) h) (after_all_lem xs)
  carriers_end (suc n) d h = rw (← d, le-leb (length bytes) (at + 2) h) (after_all_lem xs)
