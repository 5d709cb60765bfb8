-- Written by tools/widths: `table::next` meets its contract. Whichever arm it came by, it is the list's.
use Rattle.std.proofs.Common.{◌∙◌, ◌≤◌, arith}
use Rattle.widths.specs.Cited.Forms.{behind}
use Rattle.widths.specs.Cited.Starts.{next_starts}
use Rattle.widths.proofs.Arms.{outside}
use Rattle.widths.proofs.table.next.Goals.{in-0, in-1, in-2, in-3, in-4, in-5, in-6, in-7, in-8, in-9, in-10, in-11, in-12, in-13, in-14, in-15, in-16, in-17, in-18, in-19, in-20, in-21, in-22, in-23, in-24, in-25, in-26, in-27, in-28, in-29, in-30, in-31, in-32, in-33, in-34, in-35, in-36, in-37, in-38, in-39, in-40, in-41, in-42, in-43, in-44, in-45, in-46, in-47, in-48, in-49, in-50, in-51, in-52, in-53, in-54, in-55, in-56, in-57, in-58, in-59, in-60, in-61, in-62, in-63, in-64, in-65, in-66, in-67, in-68, in-69, in-70, in-71, in-72, in-73, in-74, in-75, in-76, in-77, in-78, in-79, in-80, in-81, in-82, in-83, in-84, in-85, in-86, in-87, in-88, in-89, in-90, in-91, in-92, in-93, in-94, in-95, in-96, in-97, in-98, in-99, in-100, in-101, in-102, in-103, in-104, in-105, in-106, in-107, in-108, in-109, in-110, in-111, in-112, in-113, in-114, in-115, in-116, in-117, in-118, in-119, in-120, in-121, in-122, in-123, in-124, in-125, in-126, in-127, in_default}
use Rattle.widths.proofs.table.next.Goals as goal

pub returns : goal.returns
unfolding next_starts
returns c =
    elim c.match-n.branch [
      | in-0 w ↦ rw w.in-0.is w.k-is
      | in-1 w ↦ rw w.in-1.is w.k-is
      | in-2 w ↦ rw w.in-2.is w.k-is
      | in-3 w ↦ rw w.in-3.is w.k-is
      | in-4 w ↦ rw w.in-4.is w.k-is
      | in-5 w ↦ rw w.in-5.is w.k-is
      | in-6 w ↦ rw w.in-6.is w.k-is
      | in-7 w ↦ rw w.in-7.is w.k-is
      | in-8 w ↦ rw w.in-8.is w.k-is
      | in-9 w ↦ rw w.in-9.is w.k-is
      | in-10 w ↦ rw w.in-10.is w.k-is
      | in-11 w ↦ rw w.in-11.is w.k-is
      | in-12 w ↦ rw w.in-12.is w.k-is
      | in-13 w ↦ rw w.in-13.is w.k-is
      | in-14 w ↦ rw w.in-14.is w.k-is
      | in-15 w ↦ rw w.in-15.is w.k-is
      | in-16 w ↦ rw w.in-16.is w.k-is
      | in-17 w ↦ rw w.in-17.is w.k-is
      | in-18 w ↦ rw w.in-18.is w.k-is
      | in-19 w ↦ rw w.in-19.is w.k-is
      | in-20 w ↦ rw w.in-20.is w.k-is
      | in-21 w ↦ rw w.in-21.is w.k-is
      | in-22 w ↦ rw w.in-22.is w.k-is
      | in-23 w ↦ rw w.in-23.is w.k-is
      | in-24 w ↦ rw w.in-24.is w.k-is
      | in-25 w ↦ rw w.in-25.is w.k-is
      | in-26 w ↦ rw w.in-26.is w.k-is
      | in-27 w ↦ rw w.in-27.is w.k-is
      | in-28 w ↦ rw w.in-28.is w.k-is
      | in-29 w ↦ rw w.in-29.is w.k-is
      | in-30 w ↦ rw w.in-30.is w.k-is
      | in-31 w ↦ rw w.in-31.is w.k-is
      | in-32 w ↦ rw w.in-32.is w.k-is
      | in-33 w ↦ rw w.in-33.is w.k-is
      | in-34 w ↦ rw w.in-34.is w.k-is
      | in-35 w ↦ rw w.in-35.is w.k-is
      | in-36 w ↦ rw w.in-36.is w.k-is
      | in-37 w ↦ rw w.in-37.is w.k-is
      | in-38 w ↦ rw w.in-38.is w.k-is
      | in-39 w ↦ rw w.in-39.is w.k-is
      | in-40 w ↦ rw w.in-40.is w.k-is
      | in-41 w ↦ rw w.in-41.is w.k-is
      | in-42 w ↦ rw w.in-42.is w.k-is
      | in-43 w ↦ rw w.in-43.is w.k-is
      | in-44 w ↦ rw w.in-44.is w.k-is
      | in-45 w ↦ rw w.in-45.is w.k-is
      | in-46 w ↦ rw w.in-46.is w.k-is
      | in-47 w ↦ rw w.in-47.is w.k-is
      | in-48 w ↦ rw w.in-48.is w.k-is
      | in-49 w ↦ rw w.in-49.is w.k-is
      | in-50 w ↦ rw w.in-50.is w.k-is
      | in-51 w ↦ rw w.in-51.is w.k-is
      | in-52 w ↦ rw w.in-52.is w.k-is
      | in-53 w ↦ rw w.in-53.is w.k-is
      | in-54 w ↦ rw w.in-54.is w.k-is
      | in-55 w ↦ rw w.in-55.is w.k-is
      | in-56 w ↦ rw w.in-56.is w.k-is
      | in-57 w ↦ rw w.in-57.is w.k-is
      | in-58 w ↦ rw w.in-58.is w.k-is
      | in-59 w ↦ rw w.in-59.is w.k-is
      | in-60 w ↦ rw w.in-60.is w.k-is
      | in-61 w ↦ rw w.in-61.is w.k-is
      | in-62 w ↦ rw w.in-62.is w.k-is
      | in-63 w ↦ rw w.in-63.is w.k-is
      | in-64 w ↦ rw w.in-64.is w.k-is
      | in-65 w ↦ rw w.in-65.is w.k-is
      | in-66 w ↦ rw w.in-66.is w.k-is
      | in-67 w ↦ rw w.in-67.is w.k-is
      | in-68 w ↦ rw w.in-68.is w.k-is
      | in-69 w ↦ rw w.in-69.is w.k-is
      | in-70 w ↦ rw w.in-70.is w.k-is
      | in-71 w ↦ rw w.in-71.is w.k-is
      | in-72 w ↦ rw w.in-72.is w.k-is
      | in-73 w ↦ rw w.in-73.is w.k-is
      | in-74 w ↦ rw w.in-74.is w.k-is
      | in-75 w ↦ rw w.in-75.is w.k-is
      | in-76 w ↦ rw w.in-76.is w.k-is
      | in-77 w ↦ rw w.in-77.is w.k-is
      | in-78 w ↦ rw w.in-78.is w.k-is
      | in-79 w ↦ rw w.in-79.is w.k-is
      | in-80 w ↦ rw w.in-80.is w.k-is
      | in-81 w ↦ rw w.in-81.is w.k-is
      | in-82 w ↦ rw w.in-82.is w.k-is
      | in-83 w ↦ rw w.in-83.is w.k-is
      | in-84 w ↦ rw w.in-84.is w.k-is
      | in-85 w ↦ rw w.in-85.is w.k-is
      | in-86 w ↦ rw w.in-86.is w.k-is
      | in-87 w ↦ rw w.in-87.is w.k-is
      | in-88 w ↦ rw w.in-88.is w.k-is
      | in-89 w ↦ rw w.in-89.is w.k-is
      | in-90 w ↦ rw w.in-90.is w.k-is
      | in-91 w ↦ rw w.in-91.is w.k-is
      | in-92 w ↦ rw w.in-92.is w.k-is
      | in-93 w ↦ rw w.in-93.is w.k-is
      | in-94 w ↦ rw w.in-94.is w.k-is
      | in-95 w ↦ rw w.in-95.is w.k-is
      | in-96 w ↦ rw w.in-96.is w.k-is
      | in-97 w ↦ rw w.in-97.is w.k-is
      | in-98 w ↦ rw w.in-98.is w.k-is
      | in-99 w ↦ rw w.in-99.is w.k-is
      | in-100 w ↦ rw w.in-100.is w.k-is
      | in-101 w ↦ rw w.in-101.is w.k-is
      | in-102 w ↦ rw w.in-102.is w.k-is
      | in-103 w ↦ rw w.in-103.is w.k-is
      | in-104 w ↦ rw w.in-104.is w.k-is
      | in-105 w ↦ rw w.in-105.is w.k-is
      | in-106 w ↦ rw w.in-106.is w.k-is
      | in-107 w ↦ rw w.in-107.is w.k-is
      | in-108 w ↦ rw w.in-108.is w.k-is
      | in-109 w ↦ rw w.in-109.is w.k-is
      | in-110 w ↦ rw w.in-110.is w.k-is
      | in-111 w ↦ rw w.in-111.is w.k-is
      | in-112 w ↦ rw w.in-112.is w.k-is
      | in-113 w ↦ rw w.in-113.is w.k-is
      | in-114 w ↦ rw w.in-114.is w.k-is
      | in-115 w ↦ rw w.in-115.is w.k-is
      | in-116 w ↦ rw w.in-116.is w.k-is
      | in-117 w ↦ rw w.in-117.is w.k-is
      | in-118 w ↦ rw w.in-118.is w.k-is
      | in-119 w ↦ rw w.in-119.is w.k-is
      | in-120 w ↦ rw w.in-120.is w.k-is
      | in-121 w ↦ rw w.in-121.is w.k-is
      | in-122 w ↦ rw w.in-122.is w.k-is
      | in-123 w ↦ rw w.in-123.is w.k-is
      | in-124 w ↦ rw w.in-124.is w.k-is
      | in-125 w ↦ rw w.in-125.is w.k-is
      | in-126 w ↦ rw w.in-126.is w.k-is
      | in-127 w ↦ rw w.in-127.is w.k-is
      | in_default w ↦ let h : 128 ≤ c.args.n = omega arith in w.k-is ∙ outside next_starts behind 128 c.args.n tt h
    ]
