use Rattle.std.proofs.Common.{◌≡◌, ℕ, List, Option, refl, rules, ◌∙◌}
use Rattle.h264_near.specs.Coded.{CodedMacroblock}
use Rattle.h264_near.specs.declared.motion.Motion.{Motion}
use Rattle.h264_vectors.specs.Vectors.{predicted_vector, whole}
use Rattle.h264_vectors.specs.declared.part.Part.{Part}
use Rattle.h264_vectors.proofs.predicted.predicted_vector.Goals as goal

-- a part that begins at the first block and is as wide as its macroblock has the vector of the whole
of-whole : (width : ℕ) (picture : List CodedMacroblock) (slice : ℕ) (motions : List (Option Motion)) (p : Part) (r : ℕ) → p.x ≡ 0 → p.y ≡ 0 → p.wide ≡ 4 →
    predicted_vector width picture slice motions (whole p.direction) r ≡ predicted_vector width picture slice motions p r
unfolding predicted_vector
of-whole width picture slice motions p r x y wide = rw (x, y, wide) refl

pub returns-then-eq : goal.returns-then-eq
returns-then-eq c width picture k =
    let x : c.args.part.x ≡ 0 = search rules in
    let y : c.args.part.y ≡ 0 = search rules in
    let wide : c.args.part.wide ≡ 4 = search rules in
    c.vector_of_whole.ensures width picture k ∙ of-whole width picture c.args.slice c.args.motions.now c.args.part c.args.ref_idx x y wide

pub returns : goal.returns
unfolding predicted_vector
returns c width picture k = rw (
  c.by_direction.ensures,
  c.instead.ensures,
  c.neighbour-a.ensures width picture k,
  c.neighbour-b.ensures width picture k,
  c.neighbour-c.ensures width picture k,
  c.neighbour-d.ensures width picture k,
) refl
