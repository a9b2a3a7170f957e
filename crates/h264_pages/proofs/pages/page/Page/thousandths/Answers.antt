use Rattle.std.proofs.Common.{◌%◌, ◌/◌, ◌++◌, ◌∷◌, string_bytes, sym, ap, ◌∙◌, arith}
use Rattle.std.specs.Fmt.{decimal, styled_decimal}
use Rattle.h264_pages.proofs.Decimals.{padded_to_three, written}
use Rattle.h264_pages.proofs.pages.page.Page.thousandths.Goals as goal

pub returns-else-is_err : goal.returns-else-is_err
returns-else-is_err c short =
    let decimals = ap (λ s. styled_decimal s (c.args.value % 1000)) c.laid_out.ensures ∙ padded_to_three (c.args.value % 1000) (omega arith) in (
      short,
      written c.write.result (sym c.is_err.ensures.value ∙ c.if-is_err.false) c.write.ensures.bytes
          ∙ ap (λ l. string_bytes c.args.self.now.text ++ (decimal (c.args.value / 1000) ++ 46 ∷ l)) decimals,
    )
