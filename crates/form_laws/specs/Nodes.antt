-- A type as the list of its nodes, children before their parent: the form in which resolved types are
-- held, put together and written. Assumes nothing.
use Rattle.std.specs.Prelude.{List, [], ◌∷◌, ◌++◌, Bool, true, false, ℕ, zero, suc, ◌+◌, ◌-◌, eqb, leb, length, get_or, take, drop}
use Rattle.number_columns.specs.Column.{pick, ◌⇒◌∥◌}
use Rattle.model.specs.Cty.{
  Cty,
  Ctys,
  TUnit,
  TAny,
  TExn,
  TVar,
  TInt,
  TFloat,
  TConst,
  TArrow,
  TApp,
  TTuple,
  TBuf,
  TRef,
  TInline,
  nil,
  cons,
  lengths,
}
use Rattle.meaning.specs.Output.{Written, put, last}

-- The number of a Y line's kind, how many children the node has, and its own number: a name, a
-- width, an effect. A `TInt`, which has no children, has its sign in the count's place.
pub record Node : Type 0 where
  pub kind : ℕ
  pub count : ℕ
  pub own : ℕ

abbrev pub node : ℕ → ℕ → ℕ → Node
node k n d = record { kind = k; count = n; own = d }

-- ---- the nodes of a type
unfoldable mutual
  pub post : Cty → List Node
  post TUnit = node 0 0 0 ∷ []
  post TAny = node 1 0 0 ∷ []
  post TExn = node 2 0 0 ∷ []
  post (TVar v) = node 3 0 v ∷ []
  post (TInt s w) = node 4 s w ∷ []
  post (TFloat f) = node 5 0 f ∷ []
  post (TConst c) = node 6 0 c ∷ []
  post (TArrow a e b) = post a ++ (post b ++ (node 7 2 e ∷ []))
  post (TApp n ts) = posts ts ++ (node 8 (lengths ts) n ∷ [])
  post (TTuple ts) = posts ts ++ (node 9 (lengths ts) 0 ∷ [])
  post (TBuf t) = post t ++ (node 10 1 0 ∷ [])
  post (TRef k t) = post t ++ (node 11 1 k ∷ [])
  post (TInline t) = post t ++ (node 12 1 0 ∷ [])

  pub posts : Ctys → List Node
  posts nil = []
  posts (cons t ts) = post t ++ posts ts

-- ---- putting nodes together
-- each variable replaced by the nodes that stand for it
unfoldable pub spread : (ℕ → List Node) → List Node → List Node
spread f [] = []
spread f (x ∷ xs) = elim (eqb x.kind 3) [ true ↦ f x.own ++ spread f xs | false ↦ x ∷ spread f xs ]

-- a surplus of so many types, with their nodes, goes to the last node if that is a `TApp`
unfoldable pub attached : List Node → ℕ → List Node → List Node
attached [] n ys = []
attached (x ∷ []) n ys = elim (eqb x.kind 8) [ true ↦ ys ++ (node 8 (x.count + n) x.own ∷ []) | false ↦ x ∷ [] ]
attached (x ∷ y ∷ xs) n ys = x ∷ attached (y ∷ xs) n ys

-- ---- writing
-- what is written, and the Y lines of the nodes whose parent has not come yet
pub record Writing : Type 0 where
  pub written : Written
  pub stack : List ℕ

-- how many children a node takes off the stack
unfoldable pub taken : Node → ℕ
taken x = leb x.kind 6 ⇒ 0 ∥ x.count

-- with the A lines of a `TApp` or a tuple
unfoldable pub put_args : Node → List ℕ → Written → Written
put_args x ns w =
    eqb x.kind 8 ⇒ record { args = w.args ++ ns; types = w.types } ∥
    eqb x.kind 9 ⇒ record { args = w.args ++ ns; types = w.types } ∥
    w

-- the first of so many A lines, where there were a before; 0 where there is none
unfoldable pub first_of : ℕ → ℕ → ℕ
first_of a n = pick (eqb n 0) 0 a

-- the numbers of the Y line after its kind, the children being ns and a the number of A lines before its own
unfoldable pub y_first : Node → List ℕ → ℕ → ℕ
y_first x ns a =
    eqb x.kind 4 ⇒ x.count ∥
    eqb x.kind 7 ⇒ get_or ns 0 0 ∥
    eqb x.kind 9 ⇒ first_of a x.count ∥
    eqb x.kind 10 ⇒ get_or ns 0 0 ∥
    eqb x.kind 12 ⇒ get_or ns 0 0 ∥
    x.own

unfoldable pub y_second : Node → List ℕ → ℕ → ℕ
y_second x ns a =
    eqb x.kind 4 ⇒ x.own ∥
    eqb x.kind 7 ⇒ x.own ∥
    eqb x.kind 8 ⇒ first_of a x.count ∥
    eqb x.kind 9 ⇒ x.count ∥
    eqb x.kind 11 ⇒ get_or ns 0 0 ∥
    0

unfoldable pub y_third : Node → List ℕ → ℕ
y_third x ns =
    eqb x.kind 7 ⇒ get_or ns 1 0 ∥
    eqb x.kind 8 ⇒ x.count ∥
    0

unfoldable pub put_node : Node → List ℕ → Written → Written
put_node x ns w =
    put (put_args x ns w) x.kind (y_first x ns (length w.args)) (y_second x ns (length w.args)) (y_third x ns)

-- one node: its children are the last of the stack, and its own Y line takes their place
unfoldable pub write_node : Node → Writing → Writing
write_node x s =
    let at : ℕ = length s.stack - taken x in
    let w : Written = put_node x (drop at s.stack) s.written in
    record { written = w; stack = take at s.stack ++ (last w ∷ []) }

unfoldable pub write_nodes : List Node → Writing → Writing
write_nodes [] s = s
write_nodes (x ∷ xs) s = write_nodes xs (write_node x s)

-- ---- counting
-- how many A lines the nodes have; their Y lines are as many as they are
unfoldable pub args_of : Node → ℕ
args_of x = eqb x.kind 8 ⇒ x.count ∥ eqb x.kind 9 ⇒ x.count ∥ 0

unfoldable pub count_args : List Node → ℕ
count_args [] = 0
count_args (x ∷ xs) = args_of x + count_args xs
