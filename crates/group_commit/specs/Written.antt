-- What an effect has by its type alone. This project's own.
use Rattle.vault_state.specs.Name.{IsName}
use Rattle.vault_model.specs.Said.{Effect}
use Rattle.vault_model.specs.declared.effects.Effect.TheVariants.{Made, Nested, Asked, Given}

-- a name in it is well formed
abbrev pub IsOfItsType : Effect → Type 0
IsOfItsType (Made parent child) = IsName child
IsOfItsType (Nested parent child) = IsName child
IsOfItsType (Asked claim owner items) = IsName owner
IsOfItsType (Given claim designer) = IsName designer
IsOfItsType _ = Unit {0}
