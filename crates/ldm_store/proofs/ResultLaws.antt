-- What is known where an answer is a value, or an error that was handed on.
use Rattle.std.proofs.Common.{◌≡◌, true, false, Result, Ok, Err, IfOk, IsErrAnd, sym, ◌∙◌}

-- where an error was handed on nothing is asked of a value
pub fails : {T E : Type 0} (handed : Result T E) (error : E) (Is : T → Type 0) → IsErrAnd handed (λ e. e ≡ error) → IfOk handed Is
fails (Ok value) error Is is = absurd is
fails (Err given) error Is is = tt

-- an error that was handed on is that of the call
pub same_error : {T E : Type 0} (handed : Result T E) (error other : E) → IsErrAnd handed (λ e. e ≡ error) → handed ≡ Err other → error ≡ other
same_error (Ok value) error other is e = absurd is
same_error (Err given) error other is e = (let same : given ≡ other = cc e in sym is ∙ same)

-- a value is no error
pub no_error : {T E : Type 0} (value : T) (error : E) → Ok value ≡ Err error → ⊥
no_error value error is = cc is

pub true_not_false : true ≡ false → ⊥
true_not_false is = cc is
