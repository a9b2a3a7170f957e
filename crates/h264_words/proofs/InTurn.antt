-- Arguments and subcommands that are added to a command in turn.
use Rattle.std.proofs.Common.{◌≡◌, ℕ, ◌+◌, ◌<◌, List, fold, take, length, get_or, ap, sym, ◌∙◌}
use Rattle.std.proofs.lemmas.List.Sums.{fold_more}
use Rattle.clap.specs.Words.{App}

-- a command with one thing more than the first of them
pub one-more : {X : Type 0} (add : App → X → App) (a : App) (xs : List X) (i : ℕ) (x : X) (old new : App) → new ≡ add old (get_or xs i x) →
    old ≡ fold add a (take i xs) → i < length xs → new ≡ fold add a (take (i + 1) xs)
one-more add a xs i x old new e before inside = e ∙ ap (λ b. add b (get_or xs i x)) before ∙ sym (fold_more add a xs i x inside)
