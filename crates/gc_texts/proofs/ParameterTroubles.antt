-- What `parameters_trouble` reports of parameters with a fault names what is at fault in them (`IsCallTrouble`). `rpc` is the
-- procedure's number.
use Rattle.gc_texts.proofs.Common.{◌≡◌, ℕ, List, refl, subst, sym, IsParameterCount, IsRefusal, ValueFault, IsCallTrouble, parameters_trouble, Trouble}
use Rattle.gc_catalogue.specs.declared.fault.CallFault.{CallFault}
use Rattle.gc_catalogue.specs.declared.fault.CallFault.TheVariants.{Parameters}
use Rattle.gc_values.specs.declared.fault.ValueFault.TheVariants as fault

-- where the procedure has `count` parameters and refuses the given ones with the fault `e`, what `parameters_trouble` reports of
-- `e` is what is at fault in the procedure's number and these parameters
trouble_of_fault : (rpc count : ℕ) (params : List ℕ) (e : ValueFault) → IsParameterCount rpc count
    → IsRefusal rpc params (Parameters e) → IsCallTrouble rpc params (parameters_trouble rpc count e)
trouble_of_fault rpc count params fault.Spelling counted refused = record { fault = fault.Spelling; refused = refused; count = count; counted = counted; is = refl }
trouble_of_fault rpc count params fault.Range counted refused = record { fault = fault.Range; refused = refused; count = count; counted = counted; is = refl }
trouble_of_fault rpc count params fault.OpenQuote counted refused = record { fault = fault.OpenQuote; refused = refused; count = count; counted = counted; is = refl }
trouble_of_fault rpc count params fault.TooMany counted refused = record { fault = fault.TooMany; refused = refused; count = count; counted = counted; is = refl }
trouble_of_fault rpc count params fault.Count counted refused = record { fault = fault.Count; refused = refused; count = count; counted = counted; is = refl }

-- where the procedure has `count` parameters and refuses the given ones with `of`, which is the fault `e`, and `t` is what
-- `parameters_trouble` reports of `e`, then `t` is what is at fault in number and parameters
pub trouble_of_refusal : (rpc count : ℕ) (params : List ℕ) (of : CallFault) (e : ValueFault) (t : Trouble) → IsParameterCount rpc count
    → IsRefusal rpc params of → of ≡ Parameters e → t ≡ parameters_trouble rpc count e → IsCallTrouble rpc params t
trouble_of_refusal rpc count params of e t counted refused same is =
    subst (λ (x : Trouble). IsCallTrouble rpc params x) (sym is)
    (trouble_of_fault rpc count params e counted (subst (λ (f : CallFault). IsRefusal rpc params f) same refused))
