-- The names that a write is given are copies of those of its pair.
use Rattle.std.proofs.Common.{◌≡◌, ◌⊎◌, inl, inr, ◌≤◌, IsTrue, length, sym, ◌∙◌, ap, subst}
use Rattle.vs_host.specs.Disk.{Name}
use Rattle.vs_host.specs.Names.{AreNames, is_allowed, names_of_file, swo_of, swp_of, temporary}
use Rattle.vs_host.specs.declared.names.Names.{Names}
use Rattle.vs_host.proofs.Apart.{names_inside}
use Rattle.vs_desk.specs.Pages.{IsSwapName}

module _ (names : Names) (are : AreNames names) where
  pub file_short : length names.file ≤ 255
  file_short = (names_inside names are).0.greatest

  pub new_short : length names.file_new ≤ 255
  new_short = (names_inside names are).1.1.1.1.0.greatest

  module _ (name : Name) (is : name ≡ names.file) where
    all_named : names ≡ names_of_file name
    all_named = are.others ∙ ap names_of_file (sym is)

    pub name_allowed : IsTrue (is_allowed name)
    name_allowed = subst (λ (n : Name). IsTrue (is_allowed n)) (sym is) are.allowed

    pub new_named : (made : Name) → made ≡ names.file_new → made ≡ temporary name
    new_named made same = same ∙ ap (λ (n : Names). n.file_new) all_named

    pub swap_named : (other : Name) → IsSwapName names other → (other ≡ swp_of name) ⊎ (other ≡ swo_of name)
    swap_named other (inl swp) = inl (swp ∙ ap (λ (n : Names). n.swp) all_named)
    swap_named other (inr swo) = inr (swo ∙ ap (λ (n : Names). n.swo) all_named)

-- these names with copies of the file's and of that under which it is made
pub copied : (names : Names) (name made : Name) → name ≡ names.file → made ≡ names.file_new → record names { file = name; file_new = made } ≡ names
copied names name made is same = λ i. record names { file = is i; file_new = same i }
