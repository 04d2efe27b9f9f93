-- Equivalent facts put together.
use Rattle.std.proofs.Common.{Bool, ◌↔◌, IsTrue}

abbrev pub stays : {A : Type 0} → A ↔ A
stays = ((λ a. a), (λ a. a))

abbrev pub then_iff : {A B C : Type 0} → (A ↔ B) → (B ↔ C) → A ↔ C
then_iff p q = ((λ a. q.0 (p.0 a)), (λ c. p.1 (q.1 c)))

abbrev pub not_iff : {A B : Type 0} → (A ↔ B) → (¬ A) ↔ (¬ B)
not_iff p = ((λ n b. n (p.1 b)), (λ n a. n (p.0 a)))

abbrev pub and_iff : {A B C D : Type 0} → (A ↔ B) → (C ↔ D) → (A × C) ↔ (B × D)
and_iff p q = ((λ h. (p.0 h.0, q.0 h.1)), (λ h. (p.1 h.0, q.1 h.1)))

abbrev pub implies_iff : {A B C D : Type 0} → (A ↔ B) → (C ↔ D) → (A → C) ↔ (B → D)
implies_iff p q = ((λ h b. q.0 (h (p.1 b))), (λ h a. q.1 (h (p.0 a))))

abbrev pub iff_iff : {A B C D : Type 0} → (A ↔ B) → (C ↔ D) → (A ↔ C) ↔ (B ↔ D)
iff_iff p q = (
  (λ h. ((λ b. q.0 (h.0 (p.1 b))), (λ d. p.0 (h.1 (q.1 d))))),
  (λ h. ((λ a. q.1 (h.0 (p.0 a))), (λ c. p.1 (h.1 (q.0 c))))),
)

abbrev pub each_iff : {X : Type 0} {P A B : X → Type 0} → ((x : X) → A x ↔ B x) → ((x : X) → P x → A x) ↔ ((x : X) → P x → B x)
each_iff p = ((λ h x i. (p x).0 (h x i)), (λ h x i. (p x).1 (h x i)))

-- a test in a term
abbrev pub test_iff : {A B : Type 0} {P : Bool → Type 0} → (A ↔ B) → ((b : Bool) → (IsTrue b ↔ A) → P b) ↔ ((b : Bool) → (IsTrue b ↔ B) → P b)
test_iff p = (
  (λ h b e. h b ((λ t. p.1 (e.0 t)), (λ a. e.1 (p.0 a)))),
  (λ h b e. h b ((λ t. p.0 (e.0 t)), (λ c. e.1 (p.1 c)))),
)
