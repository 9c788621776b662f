-- Whether the paths of carriers have room, which is taken off path by path.
use Rattle.std.proofs.Common.{◌≡◌, ℕ, ◌+◌, ◌-◌, ◌≤◌, true, false, cond, leb, List, [], ◌∷◌, length, Option, Some, None, vec_len, vec_items, sym, refl, ap, ◌∙◌, ⊎_elim, arith, length-append, le-leb}
use Rattle.std.proofs.lemmas.Bool.{cases_Bool}
use Rattle.std.proofs.lemmas.Bool.Decides.{nat_tests}
use Rattle.std.specs.Option.{is_some, SomeIff}
use Rattle.floors.proofs.Tried.{tried}
use Rattle.plans.specs.declared.carriers.Carrier.{Carrier}
use Rattle.plans.specs.Plan.{entries_of}
use Rattle.plans.specs.Held.{routes_of}

-- the entries of a carrier and of those behind it
entries_length : (c : Carrier) (cs : List Carrier) → length (entries_of (routes_of (c ∷ cs))) ≡ vec_len c.path + length (entries_of (routes_of cs))
unfolding entries_of routes_of
entries_length c cs = length-append (vec_items c.path) (entries_of (routes_of cs)) ∙ ap (λ n. n + length (entries_of (routes_of cs))) (sym c.path.ok.0)

-- no carrier takes no room
none_left : (room : ℕ) → true ≡ leb (length (entries_of (routes_of []))) room
unfolding entries_of routes_of
none_left room = sym (le-leb 0 room (omega arith))

-- the room that is left behind a carrier's path, if it has room
unfoldable pub room_behind : ℕ → Carrier → Option ℕ
room_behind room c = cond (leb (vec_len c.path) room) (Some (room - vec_len c.path)) None

pub behind_is : (room : ℕ) (c : Carrier) (left : Option ℕ) → SomeIff left (vec_len c.path ≤ room) (room - vec_len c.path) → left ≡ room_behind room c
unfolding room_behind
behind_is room c None h = let b : leb (vec_len c.path) room ≡ false = grind (arith, nat_tests) in rw b refl
behind_is room c (Some x) h = let b : leb (vec_len c.path) room ≡ true = le-leb (vec_len c.path) room h.0 in rw (b, h.1) refl

-- all paths can be taken off exactly if they have room together
pub room_left : (room : ℕ) (cs : List Carrier) → is_some (tried room_behind room cs) ≡ leb (length (entries_of (routes_of cs))) room
unfolding tried room_behind
room_left room [] = none_left room
room_left room (c ∷ cs) =
    let more = entries_length c cs in
    let rest = room_left (room - vec_len c.path) cs in
    ⊎_elim
    (λ (b : leb (vec_len c.path) room ≡ true). rw b (rest ∙ grind (arith, nat_tests)))
    (λ (b : leb (vec_len c.path) room ≡ false). rw b (grind (arith, nat_tests)))
    (cases_Bool (leb (vec_len c.path) room))
