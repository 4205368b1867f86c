-- What a round leaves.
use Rattle.std.proofs.Common.{◌≡◌, ℕ, ◌+◌, ◌*◌, ◌<◌, ◌≤◌, true, length, ap, ◌∙◌, arith}
use Rattle.std.proofs.lemmas.List.{length_push, length-map}
use Rattle.inline_list.specs.Items.{items}
use Rattle.cycle_theory.specs.Nets.{Counts}
use Rattle.cycle_theory.specs.Method.{within}
use Rattle.cycle_theory.proofs.Supports.{within_true}
use Rattle.cycle_theory.specs.Walk.{least_ratio, left, in_use}
use Rattle.cycle_theory.proofs.WalkingTests.{in_use_long}
use Rattle.cycle_theory.proofs.WalkingRounds.{is_least, uses_fewer}
use Rattle.certificate.specs.declared.round.Walk.{Walk}
use Rattle.certificate.specs.Extending.{share_of, times}
use Rattle.certificate.specs.Rounds.{Begun, Round}

-- rows taken and steps left are at most 24
abbrev pub Room : Walk → Type 0
Room w = length (items w.certificate.shares) + in_use w.rest.counts ≤ 24

pub begun_room : (question : Counts) (w : Walk) → Begun question w → Room w
begun_room question w b =
    let n : length (items w.certificate.shares) ≡ 0 = ap length b.certificate.shares in
    let e : in_use w.rest.counts ≡ in_use question = ap in_use b.rest in
    let l = b.long in
    omega (arith, n, e, l, in_use_long question)

pub round_room : (k : ℕ) (row : Counts) (w v : Walk) → within row w.rest.counts ≡ true → Room w → Round k row (least_ratio row w.rest.counts) w v → Room v
round_room k row w v t room r =
    let p : ℕ = (least_ratio row w.rest.counts).bottom in
    let f : in_use (left p w.rest.counts (least_ratio row w.rest.counts).top row) < in_use w.rest.counts =
    uses_fewer row w.rest.counts (within_true row w.rest.counts t) (least_ratio row w.rest.counts) (is_least row w.rest.counts r.positive) in
    let n : length (items v.certificate.shares) ≡ length (items w.certificate.shares) + 1 =
    ap length r.grown.shares ∙ length_push (times p (items w.certificate.shares)) (share_of k (least_ratio row w.rest.counts).top)
    ∙ ap (λ n. n + 1) (length-map (items w.certificate.shares) (λ s. share_of s.row (p * s.coefficient))) in
    omega (arith, n, f, room, ap in_use r.rest)
