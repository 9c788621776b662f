use Rattle.std.proofs.Common.{◌≡◌, ℕ, ◌+◌, ◌-◌, ◌*◌, ◌<◌, ◌≤◌, true, false, [], ◌∷◌, ◌++◌, length, Ok, Err, vec_items, vec_len, refl, ap, ◌∙◌, arith, rules}
use Rattle.std.proofs.lemmas.Result.{err_from_is_err_and}
use Rattle.std.proofs.lemmas.List.{map_push}
use Rattle.plans.specs.Held.{route_of, routes_of}
use Rattle.files.specs.declared.faults.FileFault.TheVariants.{Trailing}
use Rattle.files.specs.Parse.{follows_at}
use Rattle.files.specs.Reading.{carriers_in}
use Rattle.files.proofs.Listed.{after_none, agrees_err, carriers_more, carriers_refused, carriers_full, carriers_stop, carriers_trailing, carriers_end}
use Rattle.files.proofs.carriers.read_carriers.Goals as goal

pub loop-carriers-init : goal.loop-carriers-init
unfolding routes_of
loop-carriers-init c =
    let z : 32 - vec_len c.new-carriers.result ≡ 32 = omega arith in
    record { few = omega arith; room = omega arith; read = rw (c.new-carriers.ensures.items, z) (after_none _) }

pub returns-in_err-carrier_follows : goal.returns-in_err-carrier_follows
returns-in_err-carrier_follows c =
    let p = err_from_is_err_and c.from_residual.result c.from_residual.ensures.1 in
    rw (p.1, p.2) (c.loop-carriers.invariant.read ∙ carriers_stop _ _ _ _ _ _ _ c.in_err-carrier_follows.ensures.value)

pub returns-then-len-eq32 : goal.returns-then-len-eq32
returns-then-len-eq32 c =
    let d : Ok true ≡ follows_at c.loop-carriers.cursor.bytes c.loop-carriers.cursor.at = search rules in
    rw (c.into.ensures, c.record_at.ensures, c.in_ok-carrier_follows.ensures.moves) (c.loop-carriers.invariant.read ∙ carriers_full _ _ _ _ _ _ d (omega arith))

pub returns-in_err-carrier : goal.returns-in_err-carrier
returns-in_err-carrier c =
    let d : Ok true ≡ follows_at c.loop-carriers.cursor.bytes c.loop-carriers.cursor.at = search rules in
    let p = err_from_is_err_and c.from_residual-in_err-carrier.result c.from_residual-in_err-carrier.ensures.1 in
    let n : vec_len c.loop-carriers.carriers < 32 = omega arith in
    rw (p.1, p.2) (agrees_err route_of carriers_in _ _ _ (λ g e. c.loop-carriers.invariant.read ∙ carriers_refused _ _ _ _ _ _ _ g d e n) (rw c.in_ok-carrier_follows.ensures.moves at c.in_err-carrier.ensures.value))

pub loop-carriers-preserved : goal.loop-carriers-preserved
unfolding routes_of
loop-carriers-preserved c =
    let d : Ok true ≡ follows_at c.loop-carriers.cursor.bytes c.loop-carriers.cursor.at = search rules in
    let k : vec_items c.push.new.self ≡ vec_items c.loop-carriers.carriers ++ c.in_ok-carrier.carrier ∷ [] = search rules in
    let e : c.len-in-loop-carriers.result ≡ length (vec_items c.in_ok-carrier.carrier.path) = omega (arith, c.len-in-loop-carriers.ensures, c.in_ok-carrier.carrier.path.ok.0) in
    let m : c.read_carrier.new.cursor.bytes ≡ c.loop-carriers.cursor.bytes = rw (c.in_ok-carrier.ensures.moves, c.in_ok-carrier_follows.ensures.moves) refl in
    let a : c.read_carrier.new.cursor.at ≡ c.loop-carriers.cursor.at + (8 + 2 * length (vec_items c.in_ok-carrier.carrier.path)) =
    rw (c.in_ok-carrier.ensures.moves, c.in_ok-carrier_follows.ensures.moves) (omega (arith, c.in_ok-carrier.carrier.path.ok.0)) in
    let n : vec_len c.loop-carriers.carriers < 32 = omega arith in
    record {
      few = omega (arith, c.in_ok-push.ensures.len);
      room = omega arith;
      read = rw (k, map_push route_of (vec_items c.loop-carriers.carriers) c.in_ok-carrier.carrier, m, a, e, c.in_ok-push.ensures.len)
          (c.loop-carriers.invariant.read ∙ carriers_more _ _ _ _ _ _ _ _ d (rw c.in_ok-carrier_follows.ensures.moves at c.in_ok-carrier.ensures.value) n);
    }

pub returns-then-not-is_at_end : goal.returns-then-not-is_at_end
returns-then-not-is_at_end c =
    let d : Ok false ≡ follows_at c.loop-carriers.cursor.bytes c.loop-carriers.cursor.at = search rules in
    let l : c.loop-carriers.cursor.at + 2 < length c.loop-carriers.cursor.bytes = search rules in
    let e : c.at.result ≡ c.loop-carriers.cursor.at + 2 = rw (c.at.ensures, c.in_ok-carrier_follows.ensures.moves) refl in
    rw c.into-then-not-is_at_end.ensures (c.loop-carriers.invariant.read ∙ (carriers_trailing _ _ _ _ _ _ d l ∙ ap (λ (k : ℕ). Err (Trailing k)) (omega (arith, e))))

pub returns : goal.returns
returns c =
    let d : Ok false ≡ follows_at c.loop-carriers.cursor.bytes c.loop-carriers.cursor.at = search rules in
    let l : length c.loop-carriers.cursor.bytes ≤ c.loop-carriers.cursor.at + 2 = search rules in
    c.loop-carriers.invariant.read ∙ carriers_end _ _ _ _ _ _ d l
