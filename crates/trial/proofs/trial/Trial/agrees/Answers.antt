use Rattle.std.proofs.Common.{◌≡◌, length, sym, ap, ◌∙◌, arith, ext_get_or, rules}
use Rattle.std.proofs.lemmas.Slice.Eq.{slice_eq-Decides}
use Rattle.policy.specs.Sets.{left_of}
use Rattle.trial.proofs.trial.Trial.agrees.Goals as goal
use Rattle.std.proofs.lemmas.Bool.Decides.{Decides-eqb}

pub returns : goal.returns
returns c =
    let xs = c.args.self.now.left in
    let ys = c.args.self.now.saved in
    let d = slice_eq-Decides Decides-eqb _ _ _ c.eq.ensures in
    let lx : length xs ≡ 32 = search rules in
    let ly : length ys ≡ 32 = search rules in
    ((λ t i h. ap (λ zs. left_of zs i) (d.0 t)), (λ e. d.1 (ext_get_or 0 xs ys (lx ∙ sym ly) (λ i h. e i (omega arith)))))
