-- Where the entries of a runnable plan are: on the floor, each leg between two places.
use Rattle.std.proofs.Common.{◌≡◌, ℕ, zero, suc, ◌<◌, ◌≤◌, true, ◌&&◌, ltb, leb, ◌≢◌, ◌⊎◌, List, [], ◌∷◌, length, get_or, ap, ◌∙◌, inl, inr, arith}
use Rattle.std.proofs.lemmas.Bool.{and_parts, both_ways, ltb-true, leb-true, cases_lt}
use Rattle.std.proofs.lemmas.List.{get_or_past}
use Rattle.floors.specs.Exits.{has}
use Rattle.store_floor.specs.Layout.{places, fits_layout, exits_from}
use Rattle.store_floor.specs.Either.{exits_inside, exits_away}
use Rattle.plans.specs.Plan.{Plan, Route, nobody, fits_carriers, entries_of, within, on_floor, all_on_floor}
use Rattle.laws.specs.Paths.{carriers, Carrier, start, entry, last, HasLeg}
use Rattle.laws.specs.Laws.{Runnable}

-- only a carrier has legs
pub leg_carrier : (p : Plan) (c t : ℕ) → HasLeg p c t → Carrier p c
unfolding last
leg_carrier p c t l = go (cases_lt c (carriers p))
  where
    go : (c < carriers p) ⊎ (carriers p ≤ c) → c < carriers p
    go (inl h) = h
    go (inr h) = absurd (let k : t < 0 = rw (get_or_past p.carriers c nobody h) at l in omega arith)

carriers_fit : (p : Plan) → Runnable p → fits_carriers (places p.floor) p.carriers ≡ true
carriers_fit p v = (and_parts (fits_layout p.floor) (fits_carriers (places p.floor) p.carriers) v.fit).1

floor_fits : (p : Plan) → Runnable p → fits_layout p.floor ≡ true
floor_fits p v = (and_parts (fits_layout p.floor) (fits_carriers (places p.floor) p.carriers) v.fit).0

pub few_carriers : (p : Plan) → Runnable p → (c : ℕ) → Carrier p c → c < 32
few_carriers p v c cp =
    let few = (and_parts (leb (carriers p) 32) (leb (length (entries_of p.carriers)) 2048 && all_on_floor (places p.floor) p.carriers) (carriers_fit p v)).0 in
    omega (arith, leb-true (carriers p) 32 few)

start_on_floor : (n : ℕ) (rs : List Route) (c : ℕ) → all_on_floor n rs ≡ true → c < length rs → (get_or rs c nobody).start < n
unfolding all_on_floor
start_on_floor n [] c e l = absurd (omega arith)
start_on_floor n (r ∷ rs) zero e l =
    ltb-true r.start n (and_parts (ltb r.start n) (ltb r.goal n && within n r.path) (and_parts (on_floor n r) (all_on_floor n rs) e).0).0
start_on_floor n (r ∷ rs) (suc c) e l = start_on_floor n rs c (and_parts (on_floor n r) (all_on_floor n rs) e).1 (omega arith)

pub start_inside : (p : Plan) → Runnable p → (c : ℕ) → Carrier p c → start p c < places p.floor
start_inside p v c cp =
    let n = places p.floor in
    let rest = (and_parts (leb (carriers p) 32) (leb (length (entries_of p.carriers)) 2048 && all_on_floor n p.carriers) (carriers_fit p v)).1 in
    start_on_floor n p.carriers c (and_parts (leb (length (entries_of p.carriers)) 2048) (all_on_floor n p.carriers) rest).1 cp

-- each entry is a place of the floor
pub entry_inside : (p : Plan) → Runnable p → (c : ℕ) → Carrier p c → (t : ℕ) → t ≤ last p c → entry p c t < places p.floor
entry_inside p v c cp zero l = let e = v.begins c cp in let i = start_inside p v c cp in omega arith
entry_inside p v c cp (suc t) l = exits_inside p.floor (floor_fits p v) (entry p c t) (entry p c (suc t)) (v.leads c t (omega arith))

-- a leg does not end where it begins
pub legs_lead_away : (p : Plan) → Runnable p → (c t : ℕ) → HasLeg p c t → entry p c t ≢ entry p c (suc t)
legs_lead_away p v c t l e =
    both_ways (has (entry p c t) (exits_from p.floor (entry p c t)))
    (exits_away p.floor (floor_fits p v) (entry p c t))
    (ap (λ q. has q (exits_from p.floor (entry p c t))) e ∙ v.leads c t l)
