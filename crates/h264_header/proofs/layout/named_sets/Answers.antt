use Rattle.std.proofs.Common.{◌≡◌, ◌≤◌, true, Some, sym, refl, nat_le}
use Rattle.std.proofs.lemmas.Bool.{le-leb, and_parts}
use Rattle.h264_sps.specs.declared.sps.Sps.{Sps}
use Rattle.h264_sps.specs.Usable.{has_lengths, is_usable, is_accepted}
use Rattle.h264_pps.specs.declared.Pps.{Pps}
use Rattle.h264_sets.specs.Sets.{sps_of, pps_of}
use Rattle.h264_sets.proofs.Each.{of-each}
use Rattle.h264_header.proofs.layout.named_sets.Goals as goal

pub sps-requires : goal.sps-requires
sps-requires c = of-each (λ (p : Pps). p.seq_parameter_set_id ≤ 31) c.args.sets.now.pps c.args.pic_parameter_set_id c.in_ok-pps.pps.now
    c.in_ok-pps.ensures.names (sym c.in_ok-pps.ensures.found)

pub returns : goal.returns
returns c =
    let sps = c.in_ok-sps.sps.now in
    let pps = c.in_ok-pps.pps.now in
    let p : pps_of c.args.sets.now c.args.pic_parameter_set_id ≡ Some pps = sym c.in_ok-pps.ensures.found in
    let s : sps_of c.args.sets.now pps.seq_parameter_set_id ≡ Some sps = sym c.in_ok-sps.ensures.found in
    let few : pps.seq_parameter_set_id ≤ 31 =
    of-each (λ (q : Pps). q.seq_parameter_set_id ≤ 31) c.args.sets.now.pps c.args.pic_parameter_set_id pps c.in_ok-pps.ensures.names p in
    let low : nat_le pps.seq_parameter_set_id 31 ≡ true = le-leb _ _ few in
    let accepted : is_accepted sps ≡ true = of-each (λ (t : Sps). is_accepted t ≡ true) c.args.sets.now.sps pps.seq_parameter_set_id sps
    c.in_ok-sps.ensures.accepted s in
    let both : (has_lengths sps ≡ true) × (is_usable sps ≡ true) = and_parts _ _ accepted in
    record { some = rw (p, low, s, accepted) refl; none = tt; lengths = both.0; usable = both.1 }
